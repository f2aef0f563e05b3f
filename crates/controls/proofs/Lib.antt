-- What the proofs of code 13 share, and what they show.
pub mod Laws
pub mod Theorems
