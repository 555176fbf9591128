pub mod OnSlips
pub mod OnClasses
pub mod OnWriting
