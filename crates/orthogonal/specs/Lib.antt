-- What document 01 says of an Orthogonal path: its points, its legs, its two arrows, and a leg's two pieces.
pub mod Points
pub mod Orthogonal
pub mod Walk
