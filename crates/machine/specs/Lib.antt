pub mod Carrying
pub mod Lending
pub mod Holding
pub mod Blocks
pub mod Fitting
pub mod Matching
pub mod Ruling
