-- What document 01 says of writes: ink with its colour and stamp, on a row and in a window of rows.
pub mod Writes
pub mod Window
pub mod Computed
