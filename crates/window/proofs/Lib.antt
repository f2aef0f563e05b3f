-- Laws of writes into a window.
pub mod Parts
pub mod Rows
pub mod Theorems
pub mod Stretches
pub mod Laws
pub mod Fills
pub mod Down
pub mod OneRow
