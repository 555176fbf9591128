pub mod Text
pub mod Judging
pub mod Tally
pub mod Entries
pub mod Progress
