-- Edits of a base that are still to be classed, of which it is known whether they are negative. Working words of proofs.
use Rattle.std.specs.Prelude.{◌≡◌, ◌↔◌, Bool, true, false, IsTrue, ℕ, List, [], ◌∷◌, ◌++◌, All, MatchOption, Option, None, Some, length, map}
use Rattle.cs_deep.specs.Edits.Classes.{IsPoisoned}
use Rattle.cs_deep.specs.declared.edits.candidates.Ahead.{Ahead}
use Rattle.cs_deep.specs.declared.edits.candidates.Ahead.TheVariants.{Unknown, Found}
use Rattle.cs_deep.specs.declared.edits.candidates.Candidate.{Candidate}
use Rattle.cs_grammar.specs.Grammar.{PlainGrammar}
use Rattle.cs_grammar.specs.Sentence.{framed}
use Rattle.cs_mutate.specs.Edit.{Fits, edited}
use Rattle.cs_mutate.specs.Negatives.{Finds, FindsNext, Search}
use Rattle.cs_mutate.specs.Poison.{HasNoPoison}
use Rattle.cs_mutate.specs.declared.edit.Edit.{Edit}
use Rattle.cs_mutate.specs.declared.negative.Negative.{Negative}

-- the mark of a candidate tells whether its framed result has a poisoned pair
abbrev pub TellsPoison : PlainGrammar → List ℕ → Bool → Type 0
TellsPoison g list true = IsPoisoned g list
TellsPoison g list false = HasNoPoison g (framed list)

-- a candidate of a base: its edit fits, and its mark is right
pub record IsCandidate (g : PlainGrammar) (base : List ℕ) (c : Candidate) : Type 0 where
  pub fits : Fits (length base) g.tokens c.edit
  pub marked : TellsPoison g (edited base c.edit) c.negative

-- ---- what is taken of a search

-- the first edit was taken, with its mark; or there was none
abbrev pub TakesNext : Search → Option Candidate → Search → Type 0
TakesNext old found new =
    MatchOption found ((old.edits ≡ []) × (new.edits ≡ [])) (λ c. (old.edits ≡ c.edit ∷ new.edits) × IsCandidate old.grammar old.base c)

-- the edits of candidates
abbrev pub edits_in : List Candidate → List Edit
edits_in batch = map (λ c. c.edit) batch

-- these candidates were taken
pub record Takes (old : Search) (batch : List Candidate) (new : Search) : Type 0 where
  pub grammar : new.grammar ≡ old.grammar
  pub base : new.base ≡ old.base
  pub edits : old.edits ≡ edits_in batch ++ new.edits
  pub each : All (IsCandidate old.grammar old.base) batch

-- ---- what stands ahead

-- the first negative of the edits that are left, or nothing was looked for yet; the second walk has these edits left
abbrev pub StandsAhead : Search → Ahead → List Edit → Type 0
StandsAhead s Unknown behind = behind ≡ s.edits
StandsAhead s (Found found) behind = Finds s.grammar s.base s.edits found behind

-- the candidates of a search, where the second walk stands so
pub record AreCandidates (s : Search) (ahead : Ahead) (behind : Search) : Type 0 where
  pub fits : All (Fits (length s.base) s.grammar.tokens) s.edits
  pub stands : StandsAhead s ahead behind.edits

-- what is found where that stands ahead
abbrev pub LooksAhead : Ahead → Search → Option Negative → Search → Type 0
LooksAhead Unknown old found new = FindsNext old found new
LooksAhead (Found ahead) old found new = (found ≡ ahead) × (new.edits ≡ old.edits)

-- whether what was found is the negative of the edit
abbrev pub TellsAt : Option Negative → Edit → Bool → Type 0
TellsAt None edit at = at ≡ false
TellsAt (Some n) edit at = IsTrue at ↔ (n.edit ≡ edit)
