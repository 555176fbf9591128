pub mod Scan
pub mod Compared
pub mod Scanned
pub mod Best
pub mod Going
