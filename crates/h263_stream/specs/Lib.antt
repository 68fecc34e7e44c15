pub mod Stream
pub mod Passed
pub mod Pictures
pub mod Filled
