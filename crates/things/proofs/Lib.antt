-- What the proofs of what things touch share.
pub mod Laws
