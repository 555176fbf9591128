pub mod Keeping
pub mod Ahead
pub mod Taking
