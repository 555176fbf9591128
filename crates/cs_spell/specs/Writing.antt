pub mod Counts
pub mod Counting
pub mod Putting
pub mod Writing
