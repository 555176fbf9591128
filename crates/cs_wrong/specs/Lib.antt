pub mod Slips
pub mod Classes
pub mod Writing
