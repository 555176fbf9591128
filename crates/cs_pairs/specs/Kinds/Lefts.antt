-- The rules of each left side.
use Rattle.std.specs.Prelude.{◌≡◌, ℕ, ◌<◌, ◌≤◌, ◌+◌, List, [], Some, length, slice_get}
use Rattle.std.specs.Global.{Vec}
use Rattle.cs_grammar.specs.Grammar.{Production, PlainGrammar, IsRule}

-- of the rules up to a number, those with this left side, in ascending order
pub record AreRulesTo (g : PlainGrammar) (most left : ℕ) (numbers : List ℕ) : Type 0 where
  pub each : (i r : ℕ) → slice_get numbers i ≡ Some r → (p : Production) × IsRule g r p × (p.left ≡ left) × (r ≤ most)
  pub every : (r : ℕ) → (p : Production) → IsRule g r p → p.left ≡ left → r ≤ most → (i : ℕ) × (slice_get numbers i ≡ Some r)
  pub ordered : (i k r q : ℕ) → i < k → slice_get numbers i ≡ Some r → slice_get numbers k ≡ Some q → r < q

-- all rules with this left side
abbrev pub AreRulesWith : PlainGrammar → ℕ → List ℕ → Type 0
AreRulesWith g left numbers = AreRulesTo g (length g.rules) left numbers

-- a list for each nonterminal, of the rules up to a number
pub record AreLeftsTo (g : PlainGrammar) (most : ℕ) (lefts : List (Vec ℕ)) : Type 0 where
  pub many : length lefts ≡ g.nonterminals
  pub each : (k : ℕ) → (row : Vec ℕ) → slice_get lefts k ≡ Some row → AreRulesTo g most (k + 1) row.items

abbrev pub AreLefts : PlainGrammar → List (Vec ℕ) → Type 0
AreLefts g lefts = AreLeftsTo g (length g.rules) lefts

-- empty lists, so many
pub record HasNoLefts (lists : ℕ) (lefts : List (Vec ℕ)) : Type 0 where
  pub many : length lefts ≡ lists
  pub none : (k : ℕ) → (row : Vec ℕ) → slice_get lefts k ≡ Some row → row.items ≡ []
