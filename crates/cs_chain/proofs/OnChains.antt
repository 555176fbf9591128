pub mod Under
pub mod Exact
pub mod Left
pub mod Counted
pub mod Sums
