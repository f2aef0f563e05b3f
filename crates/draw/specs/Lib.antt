-- What drawing pieces of an edge leaves.
pub mod Drawn
