-- What document 01 says of all records of an image: code 4.
pub mod Tables
pub mod Good
