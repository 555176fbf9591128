pub mod Ends
pub mod Lent
