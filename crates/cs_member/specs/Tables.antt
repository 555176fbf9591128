pub mod Item
pub mod Sets
pub mod Adding
pub mod Fronts
pub mod Tables
pub mod Expecting
pub mod Whole
pub mod Asked
