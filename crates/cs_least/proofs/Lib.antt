pub mod OnCost
pub mod OnWays
pub mod OnEmbed
