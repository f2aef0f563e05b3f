-- A text read back, and the columns that it takes.
pub mod ReadBack
pub mod Columns
