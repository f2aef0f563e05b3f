-- Laws of the rules on bands and lent buffers.
pub mod Laws
