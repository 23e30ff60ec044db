pub mod Limit
pub mod Coding
pub mod Walking
pub mod Whole
