-- What the proofs of code 9 share, and what they show.
pub mod Laws
pub mod Theorems
