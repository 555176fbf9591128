pub mod OnAutomaton
pub mod OnScan
pub mod OnLexeme
