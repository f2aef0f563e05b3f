-- Words and bytes as text.
pub mod Hex
