-- Laws of a stage.
pub mod Laws
