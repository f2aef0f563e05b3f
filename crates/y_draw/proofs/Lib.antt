-- Laws of drawing a Y flow.
pub mod Laws
