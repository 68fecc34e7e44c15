pub mod Room
pub mod Blocks
pub mod Grid
