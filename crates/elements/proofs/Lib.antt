-- What the proofs of the list of elements share, and what they show.
pub mod Records
pub mod Laws
pub mod Theorems
