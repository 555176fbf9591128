pub mod OnOperations
pub mod OnText
