-- Laws that the proofs cite.
pub mod Parts
pub mod Numbers
pub mod Scalars
