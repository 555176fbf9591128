-- Symbols numbered in one: the tokens, then the nonterminals.
use Rattle.std.specs.Prelude.{ℕ, ◌+◌}
use Rattle.cs_grammar.specs.declared.symbol.Symbol.{Symbol}
use Rattle.cs_grammar.specs.declared.symbol.Symbol.TheVariants.{Token, Nonterminal}

abbrev pub symbol_number : ℕ → Symbol → ℕ
symbol_number tokens (Token t) = t
symbol_number tokens (Nonterminal n) = tokens + n
