pub mod Counted
pub mod MacroblocksTurn
pub mod GroupsTurn
pub mod PictureTurn
pub mod ParseSteps
pub mod Verdicts
pub mod ListOfReads
