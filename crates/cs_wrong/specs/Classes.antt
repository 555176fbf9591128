pub mod Classes
pub mod Met
pub mod Coming
