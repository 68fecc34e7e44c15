pub mod StreamLaws
pub mod Passes
pub mod Dropped
pub mod Pictures
