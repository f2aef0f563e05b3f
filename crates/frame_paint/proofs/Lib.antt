-- Laws of subgraphs and placed labels painted in a window.
pub mod Laws
