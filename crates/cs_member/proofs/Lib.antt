pub mod OnTables
pub mod OnChart
pub mod OnDerivation
pub mod OnMembership
