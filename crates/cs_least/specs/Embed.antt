pub mod ChosenContext
pub mod Around
pub mod Contexts
pub mod Embeds
pub mod Ways
pub mod Kept
