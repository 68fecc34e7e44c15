pub mod Determined
pub mod H263
