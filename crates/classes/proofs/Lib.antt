pub mod Halves
pub mod Adding
