-- What is shown of an Orthogonal path: the laws that the functions' proofs cite.
pub mod Laws
pub mod Walked
