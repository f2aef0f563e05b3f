-- What document 02 says of code 13, in request #105.
pub mod Controls
