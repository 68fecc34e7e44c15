mod Pairs
mod Parts
mod Bounds
mod Split
pub mod AloneLaws
pub mod InverseLaws
