pub mod Described
