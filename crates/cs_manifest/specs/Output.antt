pub mod Words
pub mod Names
pub mod Putting
pub mod Spelled
