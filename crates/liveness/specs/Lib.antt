pub mod Paths
pub mod Sets
pub mod Faults
pub mod Members
pub mod Edges
pub mod Work
pub mod Spots
