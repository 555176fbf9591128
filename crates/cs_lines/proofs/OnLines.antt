pub mod Splits
pub mod Numerals
pub mod Spelled
pub mod Forms
pub mod Indented
pub mod First
pub mod Parts
pub mod Visible
