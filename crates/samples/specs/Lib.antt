pub mod Content
pub mod Wrote
pub mod Ready
pub mod Reference
