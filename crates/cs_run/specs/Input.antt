pub mod Files
pub mod Refusal
pub mod Lines
pub mod Read
