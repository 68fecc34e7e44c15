pub mod Status
pub mod Blocks
pub mod Idle
pub mod Said
pub mod Going
pub mod Input
