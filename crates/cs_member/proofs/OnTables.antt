pub mod Places
pub mod Bits
pub mod Lists
pub mod Descending
pub mod Emptying
pub mod Entering
