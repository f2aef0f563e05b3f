-- Laws of nodes painted in a window.
pub mod Laws
