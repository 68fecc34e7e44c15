pub mod Cut
pub mod Lines
pub mod Level
pub mod Sample
