pub mod Block
pub mod Parts
pub mod Collected
pub mod Before
pub mod Standards
pub mod Renewed
