pub mod Closed
pub mod Collecting
