pub mod Cut
pub mod Found
pub mod Placed
pub mod Chosen
pub mod Given
pub mod Framed
pub mod Verdicts
