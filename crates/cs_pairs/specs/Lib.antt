pub mod Kinds
pub mod Pairs
