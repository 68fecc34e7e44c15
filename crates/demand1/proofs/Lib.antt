pub mod Order
pub mod Pictures
pub mod Blocks
pub mod Demand1
pub mod WrongRefusals
pub mod Stays
