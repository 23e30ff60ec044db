pub mod Tables
pub mod Sets
pub mod Swaps
pub mod MatchStar
