-- Laws and theorems about the picture.
pub mod Table
pub mod Statements
pub mod Rows
pub mod Laws
pub mod Bands
pub mod Answers
pub mod AllOf
pub mod Strokes
pub mod Cells
pub mod Characters
pub mod ListFree
pub mod Theorems
