pub mod Bases
pub mod Mutants
pub mod Plan
pub mod Writing
