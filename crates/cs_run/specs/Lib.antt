pub mod Input
pub mod Ending
pub mod Writer
pub mod Command
