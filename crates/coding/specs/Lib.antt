pub mod Coding
pub mod Lawful
pub mod H261
pub mod H263
pub mod Kind
pub mod Described
