-- A window of rows, what touching a row is, and rows from a first to a last.
pub mod Spots
pub mod Window
pub mod Computed
