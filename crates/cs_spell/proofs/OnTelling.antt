pub mod Judging
pub mod Choosing
pub mod Showing
pub mod Rendering
pub mod Naming
