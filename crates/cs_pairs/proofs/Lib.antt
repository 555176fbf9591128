pub mod OnKinds
pub mod OnPairs
