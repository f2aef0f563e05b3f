-- What document 02 (#101) says of a row as text, plain and coloured.
pub mod Text
pub mod Coloured
