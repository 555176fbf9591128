pub mod Output
pub mod Manifest
pub mod Filling
pub mod Writer
