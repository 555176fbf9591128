pub mod Matching
pub mod OneMatch
pub mod SomeScan
pub mod Reasons
pub mod Together
pub mod Stopping
