-- Laws of drawing.
pub mod Laws
pub mod Legs
