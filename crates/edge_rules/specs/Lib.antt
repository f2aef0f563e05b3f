-- What document 01 says of the words of an edge, as tests.
pub mod Edge
