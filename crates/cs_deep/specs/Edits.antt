pub mod Classes
pub mod Bases
pub mod Candidates
