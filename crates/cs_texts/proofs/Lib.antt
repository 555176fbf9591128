pub mod OnRendering
pub mod OnSplice
