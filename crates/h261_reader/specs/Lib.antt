pub mod Described
pub mod Verdict
pub mod ListOfReads
