pub mod Passing
pub mod Checking
