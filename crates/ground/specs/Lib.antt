-- What every layer shares: going over a list and over numbers, and the first that breaks a rule.
pub mod Each
pub mod Turns
pub mod First
pub mod Judged
