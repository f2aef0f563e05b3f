-- What is shown of a glyph's owner: laws that the functions' proofs cite, and the theorems.
pub mod Laws
pub mod Theorems
