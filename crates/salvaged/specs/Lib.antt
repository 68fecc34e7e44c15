pub mod Told
pub mod Replayed
pub mod Again
pub mod Wrong
