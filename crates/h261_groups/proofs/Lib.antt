pub mod Blocks
pub mod Room
pub mod Numbers
