pub mod ReadBack
pub mod Verdict
pub mod ListOfReads
