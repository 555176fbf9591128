pub mod Meets
pub mod Verdict
pub mod Cuts
pub mod Frame
