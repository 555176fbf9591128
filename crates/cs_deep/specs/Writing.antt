pub mod Deep
pub mod Judging
pub mod Tally
pub mod Lines
pub mod Progress
