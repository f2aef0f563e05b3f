-- What a caller from C or Rust is told.
pub mod Told
