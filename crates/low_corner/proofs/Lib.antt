-- What is shown of the corner: laws that the functions' proofs cite, and the theorems.
pub mod Laws
pub mod Theorems
