pub mod OneText
pub mod SomeText
pub mod Batches
pub mod Ending
