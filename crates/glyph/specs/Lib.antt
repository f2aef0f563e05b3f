-- What document 01 says of a glyph's width, of the table of ranges that gives it, and of the part of a label that fits.
pub mod Width
pub mod Ranges
pub mod Fitting
