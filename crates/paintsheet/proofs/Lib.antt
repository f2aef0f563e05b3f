-- Laws that the proofs cite, and what holds of a whole sheet in one call.
pub mod Laws
pub mod Theorems
