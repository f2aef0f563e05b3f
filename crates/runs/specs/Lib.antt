-- What document 01 says of runs, and how they lie in the lent scratch.
pub mod Runs
pub mod Pieces
pub mod Window
pub mod Kept
