pub mod Settled
pub mod Marks
pub mod Lists
pub mod Middle
pub mod Spliced
pub mod Marked
pub mod Apart
