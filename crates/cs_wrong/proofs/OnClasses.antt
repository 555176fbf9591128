pub mod Behind
pub mod Framed
pub mod Table
pub mod Meeting
pub mod Told
pub mod Taking
