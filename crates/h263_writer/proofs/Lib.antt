pub mod Longest
pub mod BlockTurn
pub mod MacroblockSteps
pub mod RowTurn
pub mod GroupTurn
