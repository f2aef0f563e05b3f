-- Laws of the sweep.
pub mod Laws
pub mod Theorems
