pub mod H261
pub mod H263
pub mod AllLawful
pub mod Scratch
mod ByKind
mod ReadSteps
