pub mod OnLayout
pub mod OnActions
pub mod OnReading
