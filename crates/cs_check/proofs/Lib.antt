pub mod OnPassing
pub mod OnDues
pub mod OnDueGoals
pub mod OnDueWords
pub mod OnChecking
