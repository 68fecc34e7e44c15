pub mod FilterLaws
pub mod Rows
