pub mod Lowest
pub mod Keyed
pub mod Listed
pub mod Walked
pub mod Adding
pub mod Inside
pub mod Numbered
pub mod Placed
