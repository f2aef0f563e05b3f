-- The laws of a cell, and the theorems about the rows of a picture.
pub mod Laws
pub mod Needed
pub mod Theorems
