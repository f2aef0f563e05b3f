-- What is shown of the arrows of an Orthogonal path: the laws that the functions' proofs cite.
pub mod Marked
