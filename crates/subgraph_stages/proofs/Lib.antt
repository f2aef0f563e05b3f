-- Laws of the stages of subgraphs.
pub mod Laws
