pub mod Answers
pub mod Gather
pub mod Locks
pub mod Once
pub mod Replays
pub mod Steps
