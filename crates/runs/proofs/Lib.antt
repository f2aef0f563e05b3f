-- Laws of runs.
pub mod Steps
pub mod Threads
pub mod Keeping
pub mod Covering
pub mod Owning
pub mod Within
pub mod Theorems
