pub mod Send
pub mod Sending
pub mod Run
pub mod Before
