pub mod Marked
pub mod Bytes
pub mod Stepping
pub mod Passing
pub mod Listed
