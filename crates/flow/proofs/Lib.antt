-- What is shown of both flows: the laws that the functions' proofs cite, and the theorems.
pub mod Laws
pub mod Signed
pub mod Reached
pub mod Theorems
