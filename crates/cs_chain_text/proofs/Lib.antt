pub mod OnEntries
pub mod OnRows
pub mod OnWriting
