pub mod OnPositive
pub mod OnClosed
pub mod OnCases
