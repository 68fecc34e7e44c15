pub mod Rising
pub mod Ahead
pub mod Stores
pub mod Kept
pub mod Blocks
pub mod Going
pub mod Outcomes
pub mod Once
