pub mod Flashes
pub mod Marks
pub mod Feeding
