-- What document 01 says of the list of elements by itself.
pub mod Records
pub mod Elements
pub mod Slots
