pub mod Accord
pub mod Named
pub mod Suite
