-- Whose label a glyph belongs to.
pub mod Owner
