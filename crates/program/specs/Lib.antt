pub mod Machine
pub mod Numbered
pub mod Compile
pub mod Sizes
pub mod Falls
pub mod Matched
