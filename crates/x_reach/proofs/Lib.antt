-- What is shown of the reach of an X flow: the laws that the functions' proofs cite.
pub mod Reached
