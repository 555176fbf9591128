pub mod Listing
pub mod Matching
pub mod Unfolding
