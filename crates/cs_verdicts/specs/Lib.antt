pub mod Positive
pub mod Closed
pub mod Cases
