pub mod Makers
pub mod Mutants
pub mod Rows
