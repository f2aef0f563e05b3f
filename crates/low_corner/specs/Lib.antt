-- Which corner of an edge lies below 0.
pub mod Low
