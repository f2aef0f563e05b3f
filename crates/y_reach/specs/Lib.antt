-- How the code finds what the pieces of a Y flow reach.
pub mod Reach
