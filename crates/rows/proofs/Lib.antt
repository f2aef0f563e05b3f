-- What is shown of rows and windows: the theorems.
pub mod Windows
pub mod Spots
pub mod Theorems
