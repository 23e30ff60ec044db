pub mod Falling
pub mod Growing
pub mod Only
pub mod Shapes
