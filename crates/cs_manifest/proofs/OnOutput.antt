pub mod Numerals
pub mod Pieces
pub mod Runs
pub mod Written
pub mod Lines
pub mod Growing
pub mod Numbered
