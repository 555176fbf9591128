-- Where two tokens meet: a rule of the node above both, and the place of its child that ends with the first.
use Rattle.std.specs.Prelude.{◌≡◌, ℕ, ◌<◌, ◌≤◌}
use Rattle.cs_grammar.specs.declared.symbol.Symbol.{Symbol}
use Rattle.cs_grammar.specs.Grammar.{PlainGrammar}
use Rattle.cs_grammar.specs.Weights.{Measure}
use Rattle.cs_grammar.specs.Tree.{Tree, Forest}
use Rattle.cs_grammar.specs.Context.{Context, Under}
use Rattle.cs_least.specs.Embed.ChosenContext.{count}
use Rattle.cs_pairs.specs.Pairs.Beside.{IsSeam, seam_size}

-- a seam at place i of rule r; places are counted from 0
pub record SeamAt (g : PlainGrammar) (a b r i : ℕ) : Type 0 where
  pub symbol : Symbol
  pub outer : Context
  pub left : Forest
  pub right : Forest
  pub last : Tree
  pub is_seam : IsSeam g a b symbol (Under outer r left right, last)
  pub placed : count left ≡ i

abbrev pub size_at : (w : Measure) (g : PlainGrammar) (a b r i : ℕ) → SeamAt g a b r i → ℕ
size_at w g a b r i s = seam_size w (Under s.outer r s.left s.right, s.last)

-- each seam at the places of the rule from i up to j is larger than n
abbrev pub NoSeamTo : Measure → PlainGrammar → ℕ → ℕ → ℕ → ℕ → ℕ → ℕ → Type 0
NoSeamTo w g a b r n i j = (k : ℕ) → i ≤ k → k < j → (s : SeamAt g a b r k) → n < size_at w g a b r k s

-- rule r and its place k are the lowest with a seam no larger than n
pub record IsMeetingAt (w : Measure) (g : PlainGrammar) (a b n r k : ℕ) : Type 0 where
  pub seam : SeamAt g a b r k
  pub small : size_at w g a b r k seam ≤ n
  pub earlier : (q j : ℕ) → q < r → NoSeamTo w g a b q n 0 j
  pub before : NoSeamTo w g a b r n 0 k
