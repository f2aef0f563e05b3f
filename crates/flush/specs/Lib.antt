-- How the runs of a window's rows are threaded, and a row of a window with the runs that waited.
pub mod Threads
pub mod Rows
