pub mod Entry
pub mod Progress
pub mod Below
