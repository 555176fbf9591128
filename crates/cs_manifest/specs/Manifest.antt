pub mod Named
pub mod Lines
pub mod SharedLines
pub mod Head
pub mod Counts
pub mod Manifest
pub mod ByWork
