-- Rule numbers as they are read. Working words of proofs.
use Rattle.std.specs.Prelude.{◌≡◌, ◌↔◌, ◌<◌, ◌≤◌, ◌+◌, ◌-◌, ℕ, min, List, All, Option, Some, None, slice_index_or}
use Rattle.std.specs.List.{Contains, sum_by}
use Rattle.std.specs.Global.{Vec}
use Rattle.cs_grammar.specs.Grammar.{PlainGrammar}
use Rattle.cs_grammar.specs.Tree.{IsDerivationOf}
use Rattle.cs_grammar.specs.Leftmost.{IsYield}
use Rattle.cs_grammar.specs.Weights.{Measure}
use Rattle.cs_lines.specs.Lines.Numbers.{greatest}
use Rattle.cs_check.specs.Passing.Entries.{HasSize}

-- they are these, or one of them is above all numbers of rules
abbrev pub AreRules : List ℕ → Option (List ℕ) → Type 0
AreRules rules None = (r : ℕ) × Contains rules r × (65535 < r)
AreRules rules (Some derivation) = derivation ≡ rules

-- the tokens that they yield, or they are no derivation
abbrev pub IsExpanded : PlainGrammar → List ℕ → Option (Vec ℕ) → Type 0
IsExpanded g rules None = IsDerivationOf g rules → ⊥
IsExpanded g rules (Some tokens) = IsYield g rules tokens.items

-- nodes and the numbers of leaves, where the greatest number stands for all above
abbrev pub size_told : ℕ → List ℕ → List ℕ → ℕ
size_told nodes tokens numbers = min (nodes + sum_by (λ (t : ℕ). slice_index_or numbers (t - 1) 1) tokens) greatest

-- this is the size of the tree by any measure with these numbers
abbrev pub TellsSize : PlainGrammar → List ℕ → List ℕ → ℕ → Type 0
TellsSize g rules numbers size =
    (w : Measure) → w.numbers ≡ numbers → All (λ n. n ≤ 1000000) w.numbers
    → (n : ℕ) → HasSize g w rules n ↔ (n ≡ size)
