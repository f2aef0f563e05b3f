-- What is shown of words looked at in turn, and of the header.
pub mod InTurn
pub mod Kept
pub mod Theorems
