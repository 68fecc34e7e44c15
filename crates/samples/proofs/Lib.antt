pub mod Bounds
pub mod Corner
mod Zeros
pub mod Zero
pub mod Wrote
pub mod Added
pub mod Turns
pub mod Rendered
pub mod Reference
