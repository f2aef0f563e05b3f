-- What document 01 says of the sheet image's records.
pub mod Records
pub mod Spans
pub mod Parts
