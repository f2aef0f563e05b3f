-- What is shown of the rows of an Orthogonal path: the laws that the functions' proofs cite.
pub mod Passing
