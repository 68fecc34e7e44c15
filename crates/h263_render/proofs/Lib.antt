pub mod Place
pub mod Predicted
pub mod Picture
pub mod Rendered
pub mod Reference
