pub mod Goal
pub mod Goals
pub mod Meets
pub mod Rest
pub mod Awaits
