pub mod WrongPrograms
pub mod WrongReceivers
pub mod DrawingFirst
