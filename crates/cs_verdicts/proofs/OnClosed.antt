pub mod Collected
pub mod Zips
pub mod OneClosed
