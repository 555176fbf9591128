pub mod Pattern
pub mod Repeated
pub mod Counting
pub mod Nodes
pub mod Scannable
