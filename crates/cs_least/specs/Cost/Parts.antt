-- Words of the proof of writing: codes of chosen trees that are still to be written.
use Rattle.std.specs.Prelude.{◌≡◌, ℕ, ◌≤◌, Bool, true, false, List, [], ◌∷◌, ◌++◌, reverse, All}
use Rattle.std.specs.Global.{Vec}
use Rattle.cs_grammar.specs.declared.symbol.Symbol.{Symbol}
use Rattle.cs_grammar.specs.declared.symbol.Symbol.TheVariants.{Token, Nonterminal}
use Rattle.cs_grammar.specs.Grammar.{PlainGrammar, IsSymbol}
use Rattle.cs_grammar.specs.Weights.{Measure}
use Rattle.cs_grammar.specs.Stack.{AreOnTop}
use Rattle.cs_grammar.specs.Tree.{Tree, IsTree, size, code}
use Rattle.cs_least.specs.declared.cost.cost.Cost.{Cost}
use Rattle.cs_least.specs.Cost.Rank.{rank, entry}
use Rattle.cs_least.specs.Cost.Trees.{IsFirstRule}
use Rattle.cs_least.specs.Cost.Tables.{Kept}
use Rattle.cs_least.specs.Cost.Chosen.{IsChosen}

-- the symbol is a token
abbrev pub is_token : Symbol → Bool
is_token (Token t) = true
is_token (Nonterminal n) = false

-- the codes of the chosen trees of these symbols make this list of rule numbers
abbrev pub IsText : Measure → PlainGrammar → List Symbol → List ℕ → Type 0
IsText w g [] text = text ≡ []
IsText w g (x ∷ xs) text =
    (t : Tree) × (rest : List ℕ) × IsChosen w g x t × IsText w g xs rest × (text ≡ code t ++ rest)

-- some tree of the symbol is within the limit
abbrev pub IsWithin : Measure → PlainGrammar → Symbol → Type 0
IsWithin w g x = IsSymbol g.tokens g.nonterminals x × ((t : Tree) × IsTree g x t × (size w t ≤ w.limit))

-- the table's cost of a nonterminal is within the limit
abbrev pub IsSmallIn : Kept → ℕ → Type 0
IsSmallIn kept left = rank kept.weights.limit (entry kept.table left) ≤ kept.weights.limit

-- the pending symbols have trees within the limit
abbrev pub AreSmallIn : Kept → Vec Symbol → Type 0
AreSmallIn kept pending = All (IsWithin kept.weights kept.grammar) (reverse pending.items)

-- the first rule of a nonterminal is written, and has this right side
pub record IsRoot (w : Measure) (g : PlainGrammar) (table : List Cost) (left : ℕ) (right : List Symbol) (old new : List ℕ) : Type 0 where
  pub number : ℕ
  pub first : IsFirstRule w g table left number
  pub of_rule : right ≡ first.rule.right
  pub text : new ≡ old ++ number ∷ []

abbrev pub IsRootIn : Kept → ℕ → List Symbol → List ℕ → List ℕ → Type 0
IsRootIn kept left right old new = IsRoot kept.weights kept.grammar kept.table left right old new

-- the first rule of a nonterminal is written, and its right side is pending
pub record Opens (w : Measure) (g : PlainGrammar) (table : List Cost) (left : ℕ) (pending_old pending_new : List Symbol) (old new : List ℕ) : Type 0 where
  pub number : ℕ
  pub first : IsFirstRule w g table left number
  pub pending : AreOnTop first.rule.right pending_old pending_new
  pub text : new ≡ old ++ number ∷ []

abbrev pub OpensIn : Kept → ℕ → Vec Symbol → Vec Symbol → List ℕ → List ℕ → Type 0
OpensIn kept left pending_old pending_new old new =
    Opens kept.weights kept.grammar kept.table left pending_old.items pending_new.items old new

-- the codes of the chosen trees of the pending symbols come behind what stood there
abbrev pub WritesTexts : Kept → Vec Symbol → List ℕ → List ℕ → Type 0
WritesTexts kept pending old new =
    (text : List ℕ) → IsText kept.weights kept.grammar (reverse pending.items) text → new ≡ old ++ text

-- the same of symbols, and of a nonterminal
abbrev pub WritesAll : Kept → List Symbol → List ℕ → List ℕ → Type 0
WritesAll kept xs old new = (text : List ℕ) → IsText kept.weights kept.grammar xs text → new ≡ old ++ text

abbrev pub WritesTree : Kept → ℕ → List ℕ → List ℕ → Type 0
WritesTree kept left old new = WritesAll kept (Nonterminal left ∷ []) old new

-- rule numbers came behind those that stood there
abbrev pub IsGrown : List ℕ → List ℕ → Type 0
IsGrown old new = (more : List ℕ) × (new ≡ old ++ more)
