pub mod Meanings
pub mod Events
pub mod Outcomes
pub mod Codewords
pub mod Back
pub mod WordReads
pub mod FirstOne
pub mod Lengths
