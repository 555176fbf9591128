pub mod Rendering
pub mod Splice
pub mod Work
