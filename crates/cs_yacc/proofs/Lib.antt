pub mod OnItems
pub mod OnReading
