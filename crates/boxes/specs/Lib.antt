-- How the code makes a box.
pub mod Computed
