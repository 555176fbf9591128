pub mod Suite
pub mod Summary
