pub mod Steps
pub mod Zeros
pub mod Buffers
