-- What a sheet's text says: its parts, its numbers, and the characters of its labels.
pub mod Parts
pub mod Numbers
pub mod Scalars
