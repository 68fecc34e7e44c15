pub mod Write
pub mod Sound
pub mod Asked
