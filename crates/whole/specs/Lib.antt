-- What request #112 says of the rows of a picture.
pub mod Whole
