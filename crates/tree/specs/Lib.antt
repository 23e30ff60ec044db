pub mod Nodes
pub mod Stands
