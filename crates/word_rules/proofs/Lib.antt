-- What is shown of the rules of words: laws that the functions' proofs cite, and the theorems.
pub mod Laws
pub mod Theorems
