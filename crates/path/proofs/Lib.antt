-- What is shown of the way of an edge: the laws that the functions' proofs cite, and the theorems.
pub mod Few
pub mod Laws
pub mod Multi
pub mod Theorems
