pub mod Gaps
pub mod Returns
pub mod Marks
pub mod Kinds
pub mod Laws
pub mod Views
pub mod MarkViews
