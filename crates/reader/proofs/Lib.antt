pub mod Exits
pub mod Parts
pub mod Outermost
