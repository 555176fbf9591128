pub mod Rendering
pub mod ByWork
pub mod Joined
pub mod Parts
pub mod Laws
