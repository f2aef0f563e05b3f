-- What document 01 says of Y flow.
pub mod YFlow
