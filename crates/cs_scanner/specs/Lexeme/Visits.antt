-- States that were met one after another, and the texts by which they were met.
use Rattle.std.specs.Prelude.{◌≡◌, ℕ, suc, ◌+◌, ◌*◌, ◌<◌, ◌≤◌, Bool, true, false, List, [], ◌∷◌, ◌++◌, Option, Some, None, length, slice_get, slice_index_or, reverse}
use Rattle.cs_scanner.specs.Automaton.Machine.{Machine, StateOf}
use Rattle.cs_scanner.specs.declared.lexeme.steps.Step.{Step}
use Rattle.cs_scanner.specs.declared.lexeme.search.Origin.{Origin}
use Rattle.cs_scanner.specs.declared.lexeme.search.Visit.{Visit}
use Rattle.cs_scanner.specs.Lexeme.Rank.{rank}
use Rattle.cs_scanner.specs.Lexeme.Bytes.{Rises}
use Rattle.cs_scanner.specs.Lexeme.Steps.{Goes}

-- the text by which the state at the place was met
pub data Spells (visits : List Visit) : ℕ → List ℕ → Type 0 where
  begins : (place : ℕ) (visit : Visit) (text : List ℕ) → slice_get visits place ≡ Some visit → visit.origin ≡ None → text ≡ [] → Spells visits place text
  goes_on : (place : ℕ) (visit : Visit) (origin : Origin) (front text : List ℕ) → slice_get visits place ≡ Some visit → visit.origin ≡ Some origin → Spells visits origin.place front → text ≡ front ++ origin.byte ∷ [] → Spells visits place text

-- by the place and then by rank
abbrev pub weight_of : ℕ → ℕ → ℕ
weight_of place byte = suc (4096 * place + rank byte)

abbrev pub origin_weight : Option Origin → ℕ
origin_weight None = 0
origin_weight (Some origin) = weight_of origin.place origin.byte

abbrev pub weight : Visit → ℕ
weight visit = origin_weight visit.origin

-- a byte led to the state from one at an earlier place
pub record IsBehind (m : Machine) (visits : List Visit) (place state : ℕ) (origin : Origin) : Type 0 where
  pub earlier : origin.place < place
  pub byte : origin.byte < 256
  pub visit : Visit
  pub at : slice_get visits origin.place ≡ Some visit
  pub goes : Goes m visit.state origin.byte (Some state)

-- the start stands first; any other state was met behind an earlier one
abbrev pub IsLinked : Machine → List Visit → ℕ → ℕ → Option Origin → Type 0
IsLinked m visits place state None = (place ≡ 0) × StateOf m state []
IsLinked m visits place state (Some origin) = IsBehind m visits place state origin

-- each origin is at an earlier place
abbrev pub AreEarlier : List Visit → Type 0
AreEarlier visits = (k : ℕ) (visit : Visit) (origin : Origin) → slice_get visits k ≡ Some visit → visit.origin ≡ Some origin → origin.place < k

-- the states differ, and were met in the order of places and ranks
pub record AreVisits (m : Machine) (visits : List Visit) : Type 0 where
  pub within : (k : ℕ) (visit : Visit) → slice_get visits k ≡ Some visit → visit.state < length m.sets
  pub linked : (k : ℕ) (visit : Visit) → slice_get visits k ≡ Some visit → IsLinked m visits k visit.state visit.origin
  pub rises : Rises weight visits
  pub distinct : (j k : ℕ) (visit other : Visit) → slice_get visits j ≡ Some visit → slice_get visits k ≡ Some other → visit.state ≡ other.state → j ≡ k

-- the state is among them
pub record IsMet (visits : List Visit) (state : ℕ) : Type 0 where
  pub place : ℕ
  pub visit : Visit
  pub at : slice_get visits place ≡ Some visit
  pub is : visit.state ≡ state

-- the states so far are marked, and no others
pub record AreMarked (count : ℕ) (visits : List Visit) (met : List Bool) : Type 0 where
  pub all : length met ≡ count
  pub told : (k : ℕ) (visit : Visit) → slice_get visits k ≡ Some visit → slice_index_or met visit.state false ≡ true
  pub only : (state : ℕ) → slice_index_or met state false ≡ true → IsMet visits state

pub record AreMet (m : Machine) (visits : List Visit) (met : List Bool) : Type 0 where
  pub visits_are : AreVisits m visits
  pub marked : AreMarked (length m.sets) visits met

-- the state was met with at most this weight
pub record IsMetBy (visits : List Visit) (state most : ℕ) : Type 0 where
  pub place : ℕ
  pub visit : Visit
  pub at : slice_get visits place ≡ Some visit
  pub is : visit.state ≡ state
  pub soon : weight visit ≤ most

-- no weight is above this
abbrev pub AreLight : ℕ → List Visit → Type 0
AreLight most visits = (k : ℕ) (visit : Visit) → slice_get visits k ≡ Some visit → weight visit ≤ most

-- where the steps of the row lead from the place was met no later
abbrev pub IsRowMet : List Visit → ℕ → List Step → Type 0
IsRowMet visits place row = (j : ℕ) (step : Step) → slice_get row j ≡ Some step → IsMetBy visits step.to (weight_of place step.byte)

-- the same of the state at the place
abbrev pub IsClosed : List (List Step) → List Visit → ℕ → Type 0
IsClosed rows visits place = (visit : Visit) (row : List Step) → slice_get visits place ≡ Some visit → slice_get rows visit.state ≡ Some row → IsRowMet visits place row

-- the state was met behind one at the place or later
abbrev pub IsFrom : ℕ → Option Origin → Type 0
IsFrom place None = ⊥
IsFrom place (Some origin) = place ≤ origin.place

-- states were met behind those from the place on
pub record Extends (place : ℕ) (old new : List Visit) : Type 0 where
  pub longer : length old ≤ length new
  pub stay : (k : ℕ) (visit : Visit) → slice_get old k ≡ Some visit → slice_get new k ≡ Some visit
  pub later : (k : ℕ) (visit : Visit) → length old ≤ k → slice_get new k ≡ Some visit → IsFrom place visit.origin

-- all states behind those from the place on were met
pub record AreAllMet (m : Machine) (rows : List (List Step)) (from : ℕ) (old new : List Visit) : Type 0 where
  pub visits_are : AreVisits m new
  pub extends : Extends from old new
  pub closed : (p : ℕ) → from ≤ p → p < length new → IsClosed rows new p

-- each state is below the count
abbrev pub AreWithin : ℕ → List Visit → Type 0
AreWithin count visits = (k : ℕ) (visit : Visit) → slice_get visits k ≡ Some visit → visit.state < count

-- the same of the visits in front of the place
pub record AreMarkedUpTo (count : ℕ) (visits : List Visit) (place : ℕ) (met : List Bool) : Type 0 where
  pub all : length met ≡ count
  pub told : (k : ℕ) (visit : Visit) → k < place → slice_get visits k ≡ Some visit → slice_index_or met visit.state false ≡ true
  pub only : (state : ℕ) → slice_index_or met state false ≡ true → IsMet visits state

-- In the midst of a row: the visits so far are lighter than those by the steps that are left, and where the other steps lead
-- was met.
pub record IsMidRow (m : Machine) (place : ℕ) (row : List Step) (old visits : List Visit) (met : List Bool) (i : ℕ) : Type 0 where
  pub are_met : AreMet m visits met
  pub extends : Extends place old visits
  pub front : (j k : ℕ) (step : Step) (visit : Visit) → i ≤ j → slice_get row j ≡ Some step → slice_get visits k ≡ Some visit → weight visit < weight_of place step.byte
  pub light : AreLight (4096 * (place + 1)) visits
  pub closed : (j : ℕ) (step : Step) → j < i → slice_get row j ≡ Some step → IsMetBy visits step.to (weight_of place step.byte)

-- In the midst of a search: the states behind those in front of the place were met.
pub record IsMidSearch (m : Machine) (rows : List (List Step)) (from : ℕ) (old visits : List Visit) (met : List Bool) (place : ℕ) : Type 0 where
  pub are_met : AreMet m visits met
  pub extends : Extends from old visits
  pub light : AreLight (4096 * place) visits
  pub behind : from ≤ place
  pub within : place ≤ length visits
  pub closed : (p : ℕ) → from ≤ p → p < place → IsClosed rows visits p

-- In the midst of a text: what was read is the end of the text of the place.
pub record IsMidText (visits : List Visit) (place at : ℕ) (bytes : List ℕ) : Type 0 where
  pub within : at < length visits
  pub spells : (front : List ℕ) → Spells visits at front → Spells visits place (front ++ reverse bytes)
