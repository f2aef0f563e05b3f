-- The laws of a row, and the theorems about the rows of a picture.
pub mod Pairs
pub mod Rows
pub mod Columns
pub mod Needed
pub mod Theorems
