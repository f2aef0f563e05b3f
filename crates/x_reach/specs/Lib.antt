-- How the code finds what the pieces of an X flow reach.
pub mod Reach
