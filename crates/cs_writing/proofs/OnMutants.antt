pub mod Entries
pub mod Filling
pub mod Naming
pub mod Taking
