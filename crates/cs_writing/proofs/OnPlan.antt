pub mod Steps
pub mod Making
pub mod Placings
pub mod Joining
pub mod Telling
pub mod Texts
