-- The laws that the functions' proofs share, and the theorems about spans.
pub mod Laws
pub mod Theorems
