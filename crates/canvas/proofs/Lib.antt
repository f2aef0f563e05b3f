-- The laws that the functions' proofs share, and the theorems about ink in a row.
pub mod Laws
pub mod Kept
pub mod Theorems
pub mod PackedStroke
