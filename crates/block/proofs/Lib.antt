pub mod Rows
pub mod Sums
pub mod Places
pub mod Numbers
pub mod Groups
