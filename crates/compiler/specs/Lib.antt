pub mod Limit
pub mod Faults
