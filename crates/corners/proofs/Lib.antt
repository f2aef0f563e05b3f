-- What the proofs of code 6 share, and what they show.
pub mod Laws
pub mod Theorems
