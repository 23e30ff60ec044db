pub mod Pattern
pub mod Block
pub mod Whole
pub mod Passes
pub mod Written
pub mod Shown
