-- What is shown of subgraphs and nodes: the laws that the functions' proofs and the theorems cite, and the theorems.
pub mod Laws
pub mod Spots
pub mod Theorems
