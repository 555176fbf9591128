pub mod Exact
pub mod Few
pub mod Putting
pub mod Filling
pub mod Walking
pub mod Placing
