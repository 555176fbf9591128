pub mod Names
pub mod Spellings
pub mod GivenLemmas
pub mod Standing
pub mod OneBad
pub mod OneOptions
pub mod OneRequest
