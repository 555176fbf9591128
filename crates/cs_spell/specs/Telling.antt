pub mod Chosen
pub mod Choosing
pub mod Told
pub mod Lines
pub mod Spelling
pub mod Seen
pub mod Telling
