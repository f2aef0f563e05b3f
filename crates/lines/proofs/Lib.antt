-- Laws of lines.
pub mod Laws
pub mod Clipped
pub mod Inked
