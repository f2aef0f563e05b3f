-- What document 01 says of both flows: signs and offsets, arrows, corners; what a piece of an edge makes.
pub mod Flow
pub mod Pieces
pub mod Bounds
pub mod Reach
