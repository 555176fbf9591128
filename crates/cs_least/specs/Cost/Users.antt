-- In which rules each nonterminal stands, and how often.
use Rattle.std.specs.Prelude.{◌≡◌, ℕ, ◌+◌, ◌<◌, List, [], ◌∷◌, ◌++◌, Some, length, replicate, slice_get, slice_index_or, nat_eq, Bool, true, false, All}
use Rattle.std.specs.Global.{Vec}
use Rattle.cs_grammar.specs.declared.symbol.Symbol.{Symbol}
use Rattle.cs_grammar.specs.declared.symbol.Symbol.TheVariants.{Token, Nonterminal}
use Rattle.cs_grammar.specs.Grammar.{Production, PlainGrammar}

abbrev pub one_if : Bool → ℕ
one_if true = 1
one_if false = 0

-- 1 where the numbers are the same, else 0
abbrev pub same : ℕ → ℕ → ℕ
same a b = one_if (nat_eq a b)

-- how often a number stands in a list
abbrev pub occurs : ℕ → List ℕ → ℕ
occurs k [] = 0
occurs k (x ∷ xs) = same k x + occurs k xs

-- how often a nonterminal stands among symbols
abbrev pub stands : ℕ → List Symbol → ℕ
stands n [] = 0
stands n (Token t ∷ xs) = stands n xs
stands n (Nonterminal m ∷ xs) = same n m + stands n xs

-- the rules in which a nonterminal stands, by their indexes, each as often as it stands there
pub record AreUsers (g : PlainGrammar) (n : ℕ) (users : List ℕ) : Type 0 where
  pub within : All (λ k. k < length g.rules) users
  pub each : (k : ℕ) (p : Production) → slice_get g.rules k ≡ Some p → occurs k users ≡ stands n p.right

-- the lists of those rules, one for each nonterminal
pub record IsUserTable (g : PlainGrammar) (users : List (Vec ℕ)) : Type 0 where
  pub many : length users ≡ g.nonterminals
  pub each : (k : ℕ) (d : Vec ℕ) → k < length users → AreUsers g (k + 1) (slice_index_or users k d).items

-- while the lists are made: they are empty, so many
pub record HasNoUsers (lists : ℕ) (users : List (Vec ℕ)) : Type 0 where
  pub many : length users ≡ lists
  pub none : (k : ℕ) (d : Vec ℕ) → k < length users → (slice_index_or users k d).items ≡ []

-- a rule of this right side is added
pub record AddsUser (rule : ℕ) (right : List Symbol) (old new : List (Vec ℕ)) : Type 0 where
  pub many : length new ≡ length old
  pub each : (k : ℕ) (d : Vec ℕ) → k < length old → (slice_index_or new k d).items ≡ (slice_index_or old k d).items ++ replicate (stands (k + 1) right) rule
