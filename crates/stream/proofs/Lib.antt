pub mod Stars
mod Members
mod Swaps
pub mod Tables
mod Packs
mod Deliveries
pub mod Backs
mod Halves
