pub mod Number
pub mod Told
pub mod Tables
pub mod Writing
