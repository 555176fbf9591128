pub mod Counting
pub mod OneSpelling
pub mod SomeSpelling
pub mod Writing
