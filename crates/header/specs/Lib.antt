-- What document 01 says of the header's words: code 2; and how words are looked at in turn.
pub mod Words
pub mod Header
pub mod InTurn
