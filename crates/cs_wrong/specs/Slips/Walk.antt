-- Symbols in hand that rule numbers are read from. Working words of proofs.
use Rattle.std.specs.Prelude.{ℕ, List}
use Rattle.cs_grammar.specs.Grammar.{PlainGrammar}
use Rattle.std.specs.Global.{Vec}
use Rattle.cs_grammar.specs.Leftmost.{Derives}
use Rattle.cs_grammar.specs.Walk.{in_hand}
use Rattle.cs_grammar.specs.declared.symbol.Symbol.{Symbol}

-- the rules can be put in for the leftmost nonterminals of these symbols
abbrev pub CanRead : PlainGrammar → List ℕ → List Symbol → Type 0
CanRead g rules symbols = (ys : List Symbol) × Derives g symbols rules ys

-- and they were: what is in hand behind them comes of what was before
abbrev pub Reads : PlainGrammar → List ℕ → Vec ℕ → Vec Symbol → Vec ℕ → Vec Symbol → Type 0
Reads g rules done pending new_done new_pending = Derives g (in_hand done pending) rules (in_hand new_done new_pending)
