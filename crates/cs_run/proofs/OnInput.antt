pub mod Wholes
pub mod Forms
pub mod Meanings
