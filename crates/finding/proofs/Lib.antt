-- What is shown of the findings: a search turn by turn, laws that the functions' proofs cite, and the theorems.
pub mod Search
pub mod Laws
pub mod Theorems
