pub mod Stores
pub mod Answered
pub mod Receive
pub mod Shown
pub mod Run
pub mod Before
