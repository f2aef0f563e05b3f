-- What a stroke without arms is, which request #101 writes a character for and no picture holds.
pub mod Armed
