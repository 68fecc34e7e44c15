pub mod Capture
pub mod Step
pub mod Replay
