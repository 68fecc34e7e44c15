pub mod Size
pub mod Place
