pub mod Header
pub mod Timing
