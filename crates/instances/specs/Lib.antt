pub mod Uniform
pub mod Example
pub mod Instances
pub mod Bound
