pub mod Clip
pub mod Arrives
pub mod Demand3
pub mod Theorems
pub mod Reconstructed
pub mod Soon
pub mod Ticks
