pub mod OnBases
pub mod OnMutants
pub mod OnPlan
pub mod OnWriting
