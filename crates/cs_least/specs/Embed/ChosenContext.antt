-- The chosen context of a symbol: a least one, and among the least ones the one with the lowest rules and places, from the hole
-- outwards.
use Rattle.std.specs.Prelude.{◌≡◌, ℕ, ◌+◌, ◌≤◌, List, ◌∷◌, ◌++◌}
use Rattle.cs_grammar.specs.declared.symbol.Symbol.{Symbol}
use Rattle.cs_grammar.specs.declared.symbol.Symbol.TheVariants.{Nonterminal}
use Rattle.cs_grammar.specs.Grammar.{Production, PlainGrammar, IsRule}
use Rattle.cs_grammar.specs.Places.{IsAtMost}
use Rattle.cs_grammar.specs.Weights.{Measure}
use Rattle.cs_grammar.specs.Tree.{Forest, Bare, Grown}
use Rattle.cs_grammar.specs.Context.{Context, Hole, Under, IsContext, context_size}
use Rattle.cs_least.specs.Cost.Chosen.{AreChosen}

-- how many trees there are
abbrev pub count : Forest → ℕ
count Bare = 0
count (Grown t f) = 1 + count f

-- No context of b is smaller than n. Of those of size n none has a lower rule than r around its hole, or rule r and its hole
-- at a lower place than k. A hole's place is the number of trees before it.
pub record IsFirstContext (w : Measure) (g : PlainGrammar) (b : Symbol) (r k n : ℕ) : Type 0 where
  pub least : (c : Context) → IsContext g b c → n ≤ context_size w c
  pub lowest : (outer : Context) → (q : ℕ) → (left right : Forest) → IsContext g b (Under outer q left right) → context_size w (Under outer q left right) ≡ n → IsAtMost r k q (count left)

-- The start symbol's chosen context is the hole alone. Another symbol's is a least one, where the rule around the hole is the
-- lowest, and then the hole's place; the hole's siblings are chosen trees, and their node stands in the chosen context of the
-- rule's left side.
abbrev pub IsChosenContext : Measure → PlainGrammar → Symbol → Context → Type 0
IsChosenContext w g b Hole = b ≡ Nonterminal g.start
IsChosenContext w g b (Under outer r left right) =
    (p : Production) × (xs : List Symbol) × (ys : List Symbol) × IsRule g r p × (p.right ≡ xs ++ b ∷ ys)
    × IsFirstContext w g b r (count left) (context_size w (Under outer r left right))
    × AreChosen w g xs left × AreChosen w g ys right × IsChosenContext w g (Nonterminal p.left) outer
