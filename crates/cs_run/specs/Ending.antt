pub mod Files
pub mod Summary
pub mod Texts
pub mod Ending
pub mod Headline
