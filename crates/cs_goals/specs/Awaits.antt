-- Which nonterminals of a right side are awaited.
use Rattle.std.specs.Prelude.{ℕ, ◌-◌, Bool, List, [], ◌∷◌, ◌==◌}
use Rattle.cs_grammar.specs.declared.symbol.Symbol.{Symbol}
use Rattle.cs_grammar.specs.declared.symbol.Symbol.TheVariants.{Token, Nonterminal}

-- for each nonterminal, whether it stands at the place, counted from 1
abbrev pub awaits : ℕ → List Symbol → List Bool
awaits place [] = []
awaits place (Token t ∷ xs) = awaits (place - 1) xs
awaits place (Nonterminal n ∷ xs) = (place == 1) ∷ awaits (place - 1) xs
