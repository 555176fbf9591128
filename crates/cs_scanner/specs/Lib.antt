pub mod Automaton
pub mod Scan
pub mod Lexeme
