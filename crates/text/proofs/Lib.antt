pub mod Compared
pub mod Digits
pub mod Refused
pub mod Puts
