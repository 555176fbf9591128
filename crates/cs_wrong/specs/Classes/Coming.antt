-- Slips that are still to be classed. Working words of proofs.
use Rattle.std.specs.Prelude.{◌≡◌, ◌↔◌, ◌≤◌, ℕ, All, Bool, false, IsTrue, List, [], ◌∷◌, ◌++◌, MatchOption, Option, if◌then◌else◌, length, map}
use Rattle.std.specs.List.{AllZip, Contains}
use Rattle.cs_grammar.specs.Grammar.{PlainGrammar}
use Rattle.cs_grammar.specs.Sentence.{framed}
use Rattle.cs_grammar.specs.Weights.{Weighed}
use Rattle.cs_mutate.specs.Poison.{TellsPlace}
use Rattle.cs_wrong.specs.Classes.Classes.{IsMet, behind}
use Rattle.cs_wrong.specs.Slips.Found.{AreTokensOf, IsFitting, TellsList, tokens_in}
use Rattle.cs_wrong.specs.declared.classes.coming.Candidate.{Candidate}
use Rattle.cs_wrong.specs.declared.slips.lists.SlipList.{SlipList}
use Rattle.cs_wrong.specs.declared.slips.lists.SlipList.TheVariants.{Nothing, Large, Tokens}
use Rattle.cs_wrong.specs.declared.slips.slip.Slip.{Slip}

-- the slips that were taken, those that are left, and the lists of the first
pub record PlainComing : Type 0 where
  pub earlier : List Slip
  pub left : List Slip
  pub met : List (List ℕ)

abbrev pub all_coming : List Slip → PlainComing
all_coming slips = record { earlier = []; left = slips; met = [] }

-- the lists are those of the slips that were taken
abbrev pub Knows : Weighed → PlainComing → Type 0
Knows v c = (list : List ℕ) → Contains c.met list ↔ IsMet v c.earlier list

-- and those that are left are slips of the grammar
pub record CanTake (v : Weighed) (c : PlainComing) : Type 0 where
  pub knows : Knows v c
  pub fitting : All (IsFitting v.grammar) c.left

-- whether the list was met, where there is one, and what was met then
abbrev pub Meets : List (List ℕ) → SlipList → Bool → List (List ℕ) → Type 0
Meets old Nothing again new = (again ≡ false) × (new ≡ old)
Meets old Large again new = (again ≡ false) × (new ≡ old)
Meets old (Tokens list) again new = (IsTrue again ↔ Contains old list.items) × (new ≡ (if again then old else old ++ list.items ∷ []))

-- an earlier slip has the same list, or that is told not to be so
abbrev pub TellsAgain : Weighed → List Slip → SlipList → Bool → Type 0
TellsAgain v earlier Nothing again = Unit {0}
TellsAgain v earlier Large again = Unit {0}
TellsAgain v earlier (Tokens list) again = IsTrue again ↔ IsMet v earlier list.items

-- the place of the first poisoned pair of the list, where there is one
abbrev pub TellsAt : PlainGrammar → SlipList → Option ℕ → Type 0
TellsAt g Nothing at = Unit {0}
TellsAt g Large at = Unit {0}
TellsAt g (Tokens list) at = TellsPlace g (framed list.items) at

-- a slip behind earlier ones, with what it has
pub record IsCandidate (v : Weighed) (placed : List Slip × Slip) (c : Candidate) : Type 0 where
  pub slip : c.slip ≡ placed.1
  pub list : TellsList v placed.1 c.list
  pub tokens : AreTokensOf v.grammar c.list
  pub few : length (tokens_in c.list) ≤ 1000000
  pub again : TellsAgain v placed.0 c.list c.again
  pub at : TellsAt v.grammar c.list c.at

-- the first was taken
pub record TakesOne (v : Weighed) (old : PlainComing) (c : Candidate) (new : PlainComing) : Type 0 where
  pub left : old.left ≡ c.slip ∷ new.left
  pub earlier : new.earlier ≡ old.earlier ++ c.slip ∷ []
  pub is : IsCandidate v (old.earlier, c.slip) c

-- or there was none
abbrev pub TakesNext : Weighed → PlainComing → Option Candidate → PlainComing → Type 0
TakesNext v old found new = MatchOption found ((old.left ≡ []) × (new ≡ old)) (λ c. TakesOne v old c new)

-- the slips of candidates
abbrev pub slips_in : List Candidate → List Slip
slips_in batch = map (λ c. c.slip) batch

-- these were taken
pub record Takes (v : Weighed) (old : PlainComing) (batch : List Candidate) (new : PlainComing) : Type 0 where
  pub left : old.left ≡ slips_in batch ++ new.left
  pub earlier : new.earlier ≡ old.earlier ++ slips_in batch
  pub each : AllZip (IsCandidate v) (behind old.earlier (slips_in batch)) batch
