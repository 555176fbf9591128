pub mod Pieces
pub mod OneRendering
pub mod SomeRendering
