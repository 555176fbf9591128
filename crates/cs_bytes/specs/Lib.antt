pub mod Names
pub mod Classes
pub mod Places
pub mod Digits
pub mod Limits
pub mod Escapes
