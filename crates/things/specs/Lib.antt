-- What document 01 says of the rows that a thing touches, and of the run count.
pub mod Things
pub mod Computed
