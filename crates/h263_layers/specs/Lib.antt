pub mod Vector
pub mod Start
pub mod Grammar
pub mod Answer
pub mod Ready
pub mod Among
