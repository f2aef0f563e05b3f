-- What document 01 says of one cell.
pub mod OneCell
pub mod Computed
pub mod ProofTable
