-- Laws of glyphs side by side.
pub mod Laws
