-- What is shown of all records: the laws that the functions' proofs cite, and the theorem.
pub mod Laws
pub mod Kept
pub mod Theorems
