-- How the code finds the rows of an Orthogonal path.
pub mod Passing
