pub mod Stream
pub mod Bytes
pub mod Last
pub mod Window
pub mod Pictures
pub mod Filled
pub mod Fill
