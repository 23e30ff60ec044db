pub mod Bounds
pub mod Ones
pub mod Counting
pub mod Listing
pub mod Among
