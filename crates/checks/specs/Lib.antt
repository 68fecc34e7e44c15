pub mod Check
pub mod Input
