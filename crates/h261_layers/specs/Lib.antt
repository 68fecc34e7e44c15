pub mod Vector
pub mod Grammar
pub mod Answer
pub mod Ready
