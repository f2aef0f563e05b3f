-- What is shown of the reach of a Y flow: the laws that the functions' proofs cite.
pub mod Reached
