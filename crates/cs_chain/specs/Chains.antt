pub mod Chain
pub mod Chains
pub mod Rest
pub mod Counts
