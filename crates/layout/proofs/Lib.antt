-- The laws that the functions' proofs share.
pub mod Laws
pub mod Inside
