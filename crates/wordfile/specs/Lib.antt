-- What document 01 says of an image as a file.
pub mod Words
