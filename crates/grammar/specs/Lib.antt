pub mod Words
pub mod Names
pub mod Grammar
pub mod Verdicts
