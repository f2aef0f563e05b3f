-- What a refusal of codes 5 and 8 is about.
pub mod Ranges
pub mod Order
