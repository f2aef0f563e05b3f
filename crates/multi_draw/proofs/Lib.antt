-- What is shown of drawing a MultiSegment: the laws that the functions' proofs cite.
pub mod Laws
