pub mod Operations
pub mod Text
