-- The sizes of bands.
pub mod Bands
