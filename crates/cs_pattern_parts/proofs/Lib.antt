pub mod OnItems
pub mod OnTree
