-- What document 01 says of code 6.
pub mod Corners
