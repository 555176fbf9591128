-- What is seen of states that were met.
use Rattle.std.specs.Prelude.{ℕ, ◌<◌, List, [], ◌∷◌, ◌++◌, Option, Some, None, length, slice_index_or}
use Rattle.cs_scanner.specs.declared.lexeme.search.Origin.{Origin}
use Rattle.cs_scanner.specs.declared.lexeme.search.Visit.{Visit}
use Rattle.cs_scanner.specs.Lexeme.StateTexts.{StateText}
use Rattle.cs_scanner.specs.Lexeme.Visits.{AreEarlier}

-- the text of a state, by those of the states in front of it
abbrev pub text_behind : List (List ℕ) → Option Origin → List ℕ
text_behind known None = []
text_behind known (Some origin) = slice_index_or known origin.place [] ++ origin.byte ∷ []

abbrev pub texts_behind : List (List ℕ) → List Visit → List StateText
texts_behind known [] = []
texts_behind known (visit ∷ visits) =
    record { state = visit.state; text = text_behind known visit.origin } ∷ texts_behind (known ++ text_behind known visit.origin ∷ []) visits

-- the states behind the start, with their texts
abbrev pub seen : List Visit → List StateText
seen [] = []
seen (start ∷ visits) = texts_behind ([] ∷ []) visits

-- at least the start, and each origin at an earlier place
pub record IsSearched (visits : List Visit) : Type 0 where
  pub some : 0 < length visits
  pub earlier : AreEarlier visits
