pub mod Levels
pub mod Described
pub mod LaidOut
pub mod Moved
pub mod Pictured
pub mod Preceding
pub mod Relaid
pub mod ValidAt
