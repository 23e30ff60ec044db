pub mod Joining
pub mod Shaped
pub mod Walked
pub mod Bounded
pub mod Entire
