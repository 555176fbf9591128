pub mod Cases
pub mod Laws
pub mod Met
pub mod Firsts
pub mod KeyHash
pub mod CodeHash
pub mod Table
