pub mod Leading
pub mod Backing
pub mod Spelling
pub mod Weighing
