-- Laws of a node's label painted in a window.
pub mod Laws
