pub mod Items
pub mod Tree
