pub mod Winning
pub mod Least
pub mod Noting
pub mod Laws
pub mod Lines
