-- What document 01 says of the words of one record: as tests, and in words.
pub mod Records
pub mod Good
