pub mod Half
pub mod Ready
