-- What is promised of reading an image.
pub mod Came
