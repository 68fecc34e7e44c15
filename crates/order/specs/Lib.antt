pub mod Order
pub mod Grammar
pub mod Wrong
