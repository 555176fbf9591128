pub mod Now
pub mod Buckets
pub mod Chart
pub mod Closed
pub mod Made
pub mod Asked
