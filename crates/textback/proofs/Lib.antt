-- Laws of a row's text and of what a call leaves, and the theorems about a text that is read back.
pub mod Numbers
pub mod Reading
pub mod Rows
pub mod Legible
pub mod Answers
pub mod Theorems
