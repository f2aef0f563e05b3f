-- The layout of a sheet image: its numbers by name, where its tables stand, and which field stands at a place.
pub mod Layout
pub mod Tables
pub mod Fields
pub mod Small
pub mod Inside
