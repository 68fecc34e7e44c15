pub mod Inverse
pub mod Alone
pub mod Passes
