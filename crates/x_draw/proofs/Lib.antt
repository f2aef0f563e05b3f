-- Laws of drawing an X flow.
pub mod Laws
