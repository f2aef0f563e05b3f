-- What is shown of a glyph's width and of the part of a label that fits: the laws that the functions' proofs cite, and the theorems.
pub mod Laws
pub mod Theorems
