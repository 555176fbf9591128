pub mod Plans
pub mod Steps
pub mod Made
pub mod Entries
pub mod Placing
