pub mod Layout
pub mod Actions
pub mod Reading
