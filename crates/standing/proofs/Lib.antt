pub mod Before
pub mod Told
