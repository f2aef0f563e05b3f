-- The sizes of what is written at a time.
pub mod Room
