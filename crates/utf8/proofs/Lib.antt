-- Laws that the proofs cite, and that reading what is written gives the character back.
pub mod Written
pub mod Laws
pub mod Theorems
