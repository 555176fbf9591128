pub mod Graph
pub mod Marks
pub mod Order
pub mod Walk
pub mod Groups
