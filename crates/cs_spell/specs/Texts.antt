pub mod Texts
pub mod Searching
pub mod Pieces
pub mod Gathered
