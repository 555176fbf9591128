pub mod Marks
pub mod Comments
pub mod Quotes
pub mod Blocks
pub mod Literals
pub mod Words
pub mod Scans
pub mod Unclosed
