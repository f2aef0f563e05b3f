-- What holds of the calls for C and Rust, and the laws that their proofs cite.
pub mod Told
pub mod Theorems
