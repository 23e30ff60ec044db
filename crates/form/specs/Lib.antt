pub mod Form
pub mod Meaning
pub mod Lines
pub mod Worked
pub mod Positions
pub mod Running
