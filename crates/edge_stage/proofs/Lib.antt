-- Laws of the stage of edges.
pub mod Laws
