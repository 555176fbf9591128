pub mod OneText
pub mod SomeText
