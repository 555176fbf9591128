pub mod OnInput
pub mod OnEnding
pub mod OnWriter
pub mod OnCommand
