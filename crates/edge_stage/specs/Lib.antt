-- What the stage of edges leaves.
pub mod Laid
