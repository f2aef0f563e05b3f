-- Laws of the stages of placed labels and of nodes.
pub mod Laws
