pub mod Slips
pub mod Put
pub mod Walk
pub mod Lists
pub mod Found
