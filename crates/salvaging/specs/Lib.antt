pub mod Kept
pub mod Log
pub mod Clip
pub mod Step
pub mod Salvage
pub mod Going
