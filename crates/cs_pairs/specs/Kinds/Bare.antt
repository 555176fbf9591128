-- The grammar of empty yields: the rules without tokens. A rule with tokens gives way to one that leads its left side to itself, so
-- that all rules keep their numbers and no least tree uses it.
use Rattle.std.specs.Prelude.{List, [], ◌∷◌, Bool, true, false, map, if◌then◌else◌}
use Rattle.cs_grammar.specs.declared.symbol.Symbol.{Symbol}
use Rattle.cs_grammar.specs.declared.symbol.Symbol.TheVariants.{Token, Nonterminal}
use Rattle.cs_grammar.specs.Grammar.{Production, PlainGrammar, grammar_of}

-- some of the symbols is a token
abbrev pub has_token : List Symbol → Bool
has_token [] = false
has_token (Token t ∷ xs) = true
has_token (Nonterminal n ∷ xs) = has_token xs

abbrev pub bare_right : Production → List Symbol
bare_right p = if has_token p.right then Nonterminal p.left ∷ [] else p.right

abbrev pub bare_rule : Production → Production
bare_rule p = record { left = p.left; right = bare_right p }

abbrev pub bare_grammar : PlainGrammar → PlainGrammar
bare_grammar g = grammar_of g.tokens g.nonterminals g.start (map bare_rule g.rules)
