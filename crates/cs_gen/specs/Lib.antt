pub mod Draws
pub mod Rules
pub mod Texts
pub mod Boundary
