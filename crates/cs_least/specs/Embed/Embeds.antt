-- Siblings of a hole, and the rule numbers before it.
use Rattle.std.specs.Prelude.{◌≡◌, ℕ, ◌+◌, List, [], ◌∷◌, ◌++◌, take}
use Rattle.cs_grammar.specs.declared.symbol.Symbol.{Symbol}
use Rattle.cs_grammar.specs.Grammar.{Production, PlainGrammar, IsRule}
use Rattle.cs_grammar.specs.Weights.{Measure}
use Rattle.cs_grammar.specs.Tree.{Forest, AreTrees, sizes, codes_of}
use Rattle.cs_least.specs.Cost.Chosen.{AreChosen}
use Rattle.cs_least.specs.declared.embed.inwards.RulePlace.{RulePlace}

-- a hole's siblings: trees of the symbols before it and behind it; their node is counted with them
abbrev pub AreSiblings : PlainGrammar → List Symbol → List Symbol → Forest × Forest → Type 0
AreSiblings g xs ys fs = AreTrees g xs fs.0 × AreTrees g ys fs.1

abbrev pub siblings_size : Measure → Forest × Forest → ℕ
siblings_size w fs = 1 + (sizes w fs.0 + sizes w fs.1)

-- the rule numbers before a hole, by the places from the outermost to the innermost: a place's rule, and the codes of the chosen
-- trees of the symbols before the place
abbrev pub IsLead : Measure → PlainGrammar → List RulePlace → List ℕ → Type 0
IsLead w g [] text = text ≡ []
IsLead w g (a ∷ places) text =
    (p : Production) × (f : Forest) × (rest : List ℕ) × IsRule g a.rule p × AreChosen w g (take a.place p.right) f
    × IsLead w g places rest × (text ≡ a.rule ∷ codes_of f ++ rest)
