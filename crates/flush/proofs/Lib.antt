-- Laws of a window with the runs that waited.
pub mod Linking
pub mod Windows
