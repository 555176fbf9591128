-- Which lists come from a list by the mutation of a token: deletion, insertion, replacement, and exchange of two neighbours
-- (Raselimo, Taljaard and Fischer 2019, "Breaking Parsers: Mutation-based Generation of Programs with Guaranteed Syntax Errors").
use Rattle.std.specs.Prelude.{◌≡◌, ◌≢◌, ℕ, List, ◌∷◌, ◌++◌, IsTrue, map, length}
use Rattle.std.specs.List.{AllPairs}
use Rattle.cs_grammar.specs.Grammar.{IsNumberOf}
use Rattle.cs_goals.specs.Goals.{HasExactly}
use Rattle.cs_mutate.specs.declared.edit.Edit.{Edit}
use Rattle.cs_choices.specs.declared.operators.Operators.{Operators}
use Rattle.cs_mutate.specs.Edit.{Fits, edited}
use Rattle.cs_mutate.specs.Edits.{is_listed, edits, IsOfChosen}

-- y is w without one of its tokens
pub record IsDeletion (w y : List ℕ) : Type 0 where
  pub before : List ℕ
  pub token : ℕ
  pub behind : List ℕ
  pub whole : w ≡ before ++ token ∷ behind
  pub result : y ≡ before ++ behind

-- y is w with one token more
pub record IsInsertion (tokens : ℕ) (w y : List ℕ) : Type 0 where
  pub before : List ℕ
  pub token : ℕ
  pub behind : List ℕ
  pub in_range : IsNumberOf tokens token
  pub whole : w ≡ before ++ behind
  pub result : y ≡ before ++ token ∷ behind

-- y is w with a token in place of one of its tokens
pub record IsReplacement (tokens : ℕ) (w y : List ℕ) : Type 0 where
  pub before : List ℕ
  pub old : ℕ
  pub token : ℕ
  pub behind : List ℕ
  pub in_range : IsNumberOf tokens token
  pub whole : w ≡ before ++ old ∷ behind
  pub result : y ≡ before ++ token ∷ behind

-- y is w with two neighbours exchanged
pub record IsExchange (w y : List ℕ) : Type 0 where
  pub before : List ℕ
  pub first : ℕ
  pub second : ℕ
  pub behind : List ℕ
  pub whole : w ≡ before ++ first ∷ second ∷ behind
  pub result : y ≡ before ++ second ∷ first ∷ behind

-- y comes from w by a chosen operator
pub data IsMutant (c : Operators) (tokens : ℕ) (w y : List ℕ) : Type 0 where
  Deleted : IsTrue c.delete → IsDeletion w y → IsMutant c tokens w y
  Inserted : IsTrue c.insert → IsInsertion tokens w y → IsMutant c tokens w y
  Replaced : IsTrue c.replace → IsReplacement tokens w y → IsMutant c tokens w y
  Exchanged : IsTrue c.swap → IsExchange w y → IsMutant c tokens w y

-- another list than w that comes from it so
abbrev pub IsOtherMutant : ℕ → List ℕ → Operators → List ℕ → Type 0
IsOtherMutant tokens w c y = (y ≢ w) × IsMutant c tokens w y

-- an edit of a chosen operator that fits w and is listed
abbrev pub IsListedEdit : ℕ → List ℕ → Operators → Edit → Type 0
IsListedEdit tokens w c e = IsOfChosen c e × Fits (length w) tokens e × IsTrue (is_listed w e)

-- two edits of the list of w's edits have different results
abbrev pub ResultsDiffer : ℕ → List ℕ → Operators → Type 0
ResultsDiffer tokens w c = AllPairs (λ a b. edited w a ≢ edited w b) (edits tokens w c)

-- the results are the other mutants
abbrev pub HasEachMutant : ℕ → List ℕ → Operators → Type 0
HasEachMutant tokens w c = HasExactly (map (edited w) (edits tokens w c)) (IsOtherMutant tokens w c)

-- the list has the edits that are listed
abbrev pub HasEachEdit : ℕ → List ℕ → Operators → Type 0
HasEachEdit tokens w c = HasExactly (edits tokens w c) (IsListedEdit tokens w c)
