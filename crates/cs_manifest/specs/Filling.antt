pub mod Open
pub mod Holes
pub mod ByToken
