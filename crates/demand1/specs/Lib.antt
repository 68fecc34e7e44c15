pub mod Order
pub mod Rules
pub mod Demand1
pub mod WrongRefusals
pub mod Stays
