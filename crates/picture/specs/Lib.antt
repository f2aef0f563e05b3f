-- The picture of an image, and what painting a band answers and leaves.
pub mod Writes
pub mod Picture
pub mod Characters
pub mod Sheet
pub mod Painted
pub mod ProofTable
