pub mod Puts
pub mod Passing
pub mod Blocks
pub mod Fitting
pub mod Sizes
pub mod Falls
pub mod Matched
