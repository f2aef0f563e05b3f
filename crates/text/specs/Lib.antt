-- Glyphs side by side in a window.
pub mod Text
