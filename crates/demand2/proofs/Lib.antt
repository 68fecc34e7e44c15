pub mod Demand2
pub mod WrittenBack
pub mod Promised
