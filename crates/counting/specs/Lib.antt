pub mod Ending
pub mod Lines
