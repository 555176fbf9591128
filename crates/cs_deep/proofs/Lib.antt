pub mod OnEdits
pub mod OnWriting
