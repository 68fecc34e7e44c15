pub mod WrongPrograms
pub mod MadeUp
pub mod Sampled
pub mod WrongReceivers
pub mod DrawingFirst
