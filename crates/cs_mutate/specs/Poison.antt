-- Poisoned pairs: neighbours in a framed list that stand side by side in no framed sentence
-- (Raselimo, Taljaard and Fischer 2019, "Breaking Parsers: Mutation-based Generation of Programs with Guaranteed Syntax Errors").
use Rattle.std.specs.Prelude.{◌≡◌, ℕ, ◌+◌, ◌<◌, List, [], ◌∷◌, ◌++◌, Option, Some, map, slice_get, MatchOption}
use Rattle.cs_grammar.specs.declared.symbol.Mark.{Mark}
use Rattle.cs_grammar.specs.declared.symbol.Mark.TheVariants.{Token}
use Rattle.cs_grammar.specs.Grammar.{PlainGrammar}
use Rattle.cs_pairs.specs.Pairs.Pairs.{IsAdjacent}
use Rattle.cs_mutate.specs.declared.poisoning.PoisonedPair.{PoisonedPair}

-- the pair at a place of a list of marks, counted from 0: a stands there, and b directly behind it
pub record IsPair (marks : List Mark) (at : ℕ) (a b : Mark) : Type 0 where
  pub left : slice_get marks at ≡ Some a
  pub right : slice_get marks (at + 1) ≡ Some b

-- each pair is adjacent
abbrev pub HasNoPoison : PlainGrammar → List Mark → Type 0
HasNoPoison g marks = (at : ℕ) (a b : Mark) → IsPair marks at a b → IsAdjacent g a b

-- the pair at this place is the first that is poisoned
pub record IsFirstPoisoned (g : PlainGrammar) (marks : List Mark) (at : ℕ) (a b : Mark) : Type 0 where
  pub pair : IsPair marks at a b
  pub poisoned : IsAdjacent g a b → ⊥
  pub earlier : (k : ℕ) (x y : Mark) → k < at → IsPair marks k x y → IsAdjacent g x y

-- there is such a pair at this place
abbrev pub IsPoisonedAt : PlainGrammar → List Mark → ℕ → Type 0
IsPoisonedAt g marks at = (a : Mark) × (b : Mark) × IsFirstPoisoned g marks at a b

-- the place of the first poisoned pair, or that there is none
abbrev pub TellsPlace : PlainGrammar → List Mark → Option ℕ → Type 0
TellsPlace g marks found = MatchOption found (HasNoPoison g marks) (IsPoisonedAt g marks)

-- the first poisoned pair with its place, or that there is none
abbrev pub TellsPair : PlainGrammar → List Mark → Option PoisonedPair → Type 0
TellsPair g marks found =
    MatchOption found (HasNoPoison g marks) (λ p. IsFirstPoisoned g marks p.at p.left p.right)

-- a mark, some tokens and a mark
abbrev pub between : Mark → List ℕ → Mark → List Mark
between left tokens right = left ∷ map Token tokens ++ right ∷ []
