pub mod Membership
pub mod Edits
pub mod Writing
