-- What document 01 says of code 9.
pub mod Listing
pub mod Computed
