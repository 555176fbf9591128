pub mod Choices
pub mod Formats
pub mod Numbers
pub mod Parts
pub mod Summaries
