pub mod Outcomes
pub mod Codewords
pub mod Back
pub mod Coefficients
pub mod WordReads
pub mod Addresses
pub mod Stands
