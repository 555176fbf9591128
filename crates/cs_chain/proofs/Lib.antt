pub mod OnChains
pub mod OnJudging
