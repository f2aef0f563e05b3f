-- Laws that every layer shares.
pub mod Order
pub mod Each
pub mod Turns
pub mod First
pub mod Judged
