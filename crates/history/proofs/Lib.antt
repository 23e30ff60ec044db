pub mod Blocks
pub mod Standing
pub mod Follows
pub mod Once
