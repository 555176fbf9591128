pub mod Called
mod Examples
pub mod Known
pub mod Out
pub mod Stops
