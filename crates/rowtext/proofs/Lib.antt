-- Laws that the proofs cite, and what the text of a row amounts to.
pub mod Laws
pub mod Theorems
