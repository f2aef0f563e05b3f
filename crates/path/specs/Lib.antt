-- What document 01 says of the way of an edge: its pieces, the rows that they touch, its runs, and its corners below 0.
pub mod Pieces
pub mod Touched
pub mod Corners
