pub mod Sample
pub mod Turn
pub mod Reference
