pub mod Matching
pub mod Pieces
