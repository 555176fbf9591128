pub mod Back
pub mod Writing
pub mod Asked
