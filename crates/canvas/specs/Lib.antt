-- What document 01 says of ink in a row of cells.
pub mod Row
pub mod Cells
pub mod Packed
pub mod ProofTable
