pub mod Vector
pub mod Value
pub mod Valid
pub mod Proper
pub mod Pictured
pub mod Relaid
pub mod Fields
pub mod Moved
