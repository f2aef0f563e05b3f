-- What document 01 says of subgraphs, nodes and placed labels: what each makes, as spots.
pub mod Frames
pub mod Subgraphs
pub mod Nodes
pub mod PlacedLabels
pub mod Computed
