pub mod OneWrong
pub mod SomeWrong
pub mod EachOnce
pub mod Judged
pub mod Counting
pub mod Batches
pub mod Ending
