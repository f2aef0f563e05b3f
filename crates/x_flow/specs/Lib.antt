-- What document 01 says of X flow.
pub mod XFlow
