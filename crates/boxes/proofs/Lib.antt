-- Laws of boxes.
pub mod Laws
