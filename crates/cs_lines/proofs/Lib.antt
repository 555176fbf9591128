pub mod OnTexts
pub mod OnLines
pub mod OnNames
pub mod OnPieces
