-- What is shown of the pieces of a leg: the laws that the functions' proofs cite.
pub mod Laws
