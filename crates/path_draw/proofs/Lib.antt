-- What is shown of drawing an edge: the laws that the functions' proofs cite.
pub mod Laws
