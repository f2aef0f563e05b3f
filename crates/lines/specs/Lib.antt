-- Lines with arrows, as ink at places of the sheet.
pub mod Lines
pub mod Computed
