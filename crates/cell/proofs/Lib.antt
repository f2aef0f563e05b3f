-- The laws that the functions' proofs share, and the theorems about one cell.
pub mod Laws
pub mod Theorems
