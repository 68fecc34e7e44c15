pub mod Coefficient
pub mod Words
