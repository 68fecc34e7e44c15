mod Coefficients
pub mod CutLaws
pub mod Level
pub mod Lines
pub mod SampleLaws
