-- What is promised of reading.
pub mod Within
