pub mod Division
pub mod Word
pub mod Code
pub mod Theorems
pub mod Locate
pub mod Frame
