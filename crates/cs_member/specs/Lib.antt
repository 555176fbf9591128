pub mod Tables
pub mod Chart
pub mod Derivation
pub mod Membership
