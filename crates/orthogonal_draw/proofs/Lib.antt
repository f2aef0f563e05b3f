-- What is shown of drawing an Orthogonal path: the laws that the functions' proofs cite.
pub mod Laws
