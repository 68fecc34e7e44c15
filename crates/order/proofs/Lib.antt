pub mod Logic
pub mod Words
pub mod Layers
pub mod Order
pub mod Smallest
pub mod Wrong
