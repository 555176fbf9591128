pub mod Carrying
pub mod Scanned
pub mod Words
