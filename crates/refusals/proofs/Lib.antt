-- What the proofs of the check share, and what they show.
pub mod FirstBroken
pub mod Laws
pub mod Accepted
pub mod Kept
pub mod Theorems
