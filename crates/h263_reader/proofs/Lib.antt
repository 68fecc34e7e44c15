pub mod Vectors
pub mod RowTurn
pub mod PictureTurn
pub mod Counted
pub mod ParseSteps
