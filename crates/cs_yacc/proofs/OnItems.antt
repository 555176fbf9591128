pub mod Gaps
pub mod Front
pub mod Begin
pub mod Reading
pub mod Known
pub mod Stopping
pub mod Stuck
