pub mod Settling
pub mod Marking
pub mod Aligning
pub mod Lists
pub mod Telling
pub mod Standing
