pub mod Words
pub mod Quotes
pub mod OneLine
