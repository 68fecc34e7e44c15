pub mod Format
pub mod Order
pub mod Blocks
