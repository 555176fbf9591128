pub mod Apart
pub mod OneSummary
pub mod Promises
