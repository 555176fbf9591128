pub mod Checked
pub mod OneText
pub mod Performing
pub mod Scanned
