pub mod Cost
pub mod Ways
pub mod Embed
