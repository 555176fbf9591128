pub mod Distinct
pub mod Offers
