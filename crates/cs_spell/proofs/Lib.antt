pub mod OnTexts
pub mod OnTelling
pub mod OnWriting
