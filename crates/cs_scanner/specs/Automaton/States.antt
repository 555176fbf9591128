-- States as sets of numbers, and the steps between them.
use Rattle.std.specs.Prelude.{◌≡◌, ◌≢◌, ◌⊎◌, ℕ, zero, suc, ◌+◌, ◌*◌, ◌<◌, ◌≤◌, Bool, true, false, List, [], ◌∷◌, ◌++◌, All, Contains, slice_get, slice_index, slice_index_or, Option, Some, None, length, take, ◌^◌, if◌then◌else◌}
use Rattle.cs_pattern_parts.specs.Items.Members.{has}
use Rattle.std.proofs.Common.{Vec, Global, map}
use Rattle.cs_scanner.specs.Automaton.Bits.{bit, Puts}
use Rattle.cs_scanner.specs.Automaton.Exits.{exit, nexts}
use Rattle.cs_scanner.specs.Automaton.Linear.{Starts}
use Rattle.cs_scanner.specs.Automaton.Listed.{ListsAll}
use Rattle.cs_scanner.specs.Automaton.Meaning.{all_classes}
use Rattle.cs_scanner.specs.Automaton.Places.{NumberedClass, whole, with_places, all_letters, IsFull}
use Rattle.cs_scanner.specs.Automaton.Re.{Re}
use Rattle.cs_scanner.specs.Automaton.Reached.{Reaches, ReachesNumber}
use Rattle.cs_scanner.specs.Automaton.Rules.{AreSpelled}

-- what may come behind the text
abbrev pub Follows : List (Re (List ℕ)) → List ℕ → NumberedClass → List (Re NumberedClass) → Type 0
Follows rs x b last = ((x ≡ []) × Starts (whole rs ∷ []) b last) ⊎ ((k : NumberedClass) × (mid : List (Re NumberedClass)) × Reaches rs x k mid × Starts mid b last)

-- the numbers of what may come behind the text pass the test, and no others
pub record AreNext (rs : List (Re (List ℕ))) (x : List ℕ) (N : ℕ → Bool) : Type 0 where
  pub follow : (n : ℕ) → N n ≡ true → (b : NumberedClass) × (last : List (Re NumberedClass)) × Follows rs x b last × (b.number ≡ n)
  pub all : (b : NumberedClass) (last : List (Re NumberedClass)) → Follows rs x b last → N b.number ≡ true

-- the numbers that the text reaches pass the test, and no others
pub record IsReached (rs : List (Re (List ℕ))) (x : List ℕ) (S : ℕ → Bool) : Type 0 where
  pub reached : (p : ℕ) → S p ≡ true → ReachesNumber rs x p
  pub all : (p : ℕ) → ReachesNumber rs x p → S p ≡ true

-- the class with the number has the byte
pub record HasClass (classes : List (List ℕ)) (byte n : ℕ) : Type 0 where
  pub class : List ℕ
  pub at : slice_get classes n ≡ Some class
  pub has : Contains class byte

-- the row has the numbers of the classes that have the byte
pub record IsRow (classes : List (List ℕ)) (byte : ℕ) (row : List ℕ) : Type 0 where
  pub has : (n : ℕ) → bit row n ≡ true → HasClass classes byte n
  pub all : (n : ℕ) → HasClass classes byte n → bit row n ≡ true

-- the class with the number has the byte, as a test
abbrev pub class_has : List (List ℕ) → ℕ → ℕ → Bool
class_has classes n byte = has (slice_index_or classes n []) byte

-- the numbers of the classes that have the byte, the first class numbered as told
abbrev pub with_byte : ℕ → List (List ℕ) → ℕ → List ℕ
with_byte from [] byte = []
with_byte from (class ∷ classes) byte = (if has class byte then from ∷ [] else []) ++ with_byte (suc from) classes byte

-- Each byte has a column with its row, and each column a byte.
pub record AreColumns (classes : List (List ℕ)) (rows : List (List ℕ)) (column_of : List ℕ) (width : ℕ) : Type 0 where
  pub many : length column_of ≡ 256
  pub few : length rows ≤ 256
  pub found : (byte : ℕ) → byte < 256 → (row : List ℕ) × (slice_get rows (slice_index column_of byte) ≡ Some row) × IsRow classes byte row
  pub some : (k : ℕ) (row : List ℕ) → slice_get rows k ≡ Some row → (length row ≡ width) × ((byte : ℕ) × (byte < 256) × IsRow classes byte row)

-- ---- states

-- State 0 stands for the empty text, any other for the texts that reach its numbers.
abbrev pub StandsFor : List (Re (List ℕ)) → List (List ℕ) → ℕ → List ℕ → Type 0
StandsFor rs sets zero x = x ≡ []
StandsFor rs sets (suc k) x = (words : List ℕ) × (slice_get sets (suc k) ≡ Some words) × (x ≢ []) × IsReached rs x (bit words)

-- all are bytes
abbrev pub AreBytes : List ℕ → Type 0
AreBytes x = All (λ b. b < 256) x

-- a word of 64 bits
abbrev pub AreWords : List ℕ → Type 0
AreWords words = (k : ℕ) → slice_index words k < 2 ^ 64

-- some text reaches the numbers
pub record IsState (rs : List (Re (List ℕ))) (words : List ℕ) : Type 0 where
  pub text : List ℕ
  pub bytes : AreBytes text
  pub not_empty : text ≢ []
  pub reached : IsReached rs text (bit words)
  pub number : ℕ
  pub some : bit words number ≡ true

-- the start, and states of different sets
pub record HasStates (rs : List (Re (List ℕ))) (width : ℕ) (sets : List (List ℕ)) : Type 0 where
  pub start : (words : List ℕ) × (slice_get sets 0 ≡ Some words) × ((n : ℕ) → bit words n ≡ false)
  pub wide : (k : ℕ) (words : List ℕ) → slice_get sets k ≡ Some words → (length words ≡ width) × AreWords words
  pub each : (k : ℕ) (words : List ℕ) → slice_get sets (suc k) ≡ Some words → IsState rs words
  pub apart : (j k : ℕ) (words : List ℕ) → slice_get sets j ≡ Some words → slice_get sets k ≡ Some words → j ≡ k

-- the states stay, and more come behind them
abbrev pub Grows : List (List ℕ) → List (List ℕ) → Type 0
Grows old new = (k : ℕ) (words : List ℕ) → slice_get old k ≡ Some words → slice_get new k ≡ Some words

-- From the state the byte leads to that state, or nowhere.
abbrev pub IsStep : List (Re (List ℕ)) → List (List ℕ) → ℕ → ℕ → Option ℕ → Type 0
IsStep rs sets k byte None = (x : List ℕ) → StandsFor rs sets k x → (a : NumberedClass) (next : List (Re NumberedClass)) → Reaches rs (x ++ byte ∷ []) a next → ⊥
IsStep rs sets k byte (Some j) = (x : List ℕ) → StandsFor rs sets k x → StandsFor rs sets j (x ++ byte ∷ [])

-- The state is one of these, and the bits say what may come behind its texts.
pub record IsReady (rs : List (Re (List ℕ))) (width : ℕ) (sets : List (List ℕ)) (state : ℕ) (next : List ℕ) : Type 0 where
  pub states : HasStates rs width sets
  pub words : List ℕ
  pub there : slice_get sets state ≡ Some words
  pub behind : (x : List ℕ) → StandsFor rs sets state x → AreNext rs x (bit next)

-- the steps of the state, one for each column
abbrev pub AreSteps : List (Re (List ℕ)) → List (List ℕ) → List (List ℕ) → ℕ → List (Option ℕ) → Type 0
AreSteps rs rows sets state steps = (k byte : ℕ) (row : List ℕ) → k < length steps → slice_get rows k ≡ Some row → IsRow (all_classes rs) byte row → IsStep rs sets state byte (slice_index_or steps k None)

-- each state with a row of steps
abbrev pub IsStepped : List (Re (List ℕ)) → List (List ℕ) → List (List ℕ) → List (List (Option ℕ)) → Type 0
IsStepped rs rows sets all = (k : ℕ) (steps : List (Option ℕ)) → slice_get all k ≡ Some steps → (length steps ≡ length rows) × AreSteps rs rows sets k steps

-- more states, among which the old ones stay
pub record Added (rs : List (Re (List ℕ))) (width : ℕ) (old new : List (List ℕ)) : Type 0 where
  pub states : HasStates rs width new
  pub grows : Grows old new

-- the step by each byte of a row
abbrev pub RowStep : List (Re (List ℕ)) → List (List ℕ) → ℕ → List ℕ → Option ℕ → Type 0
RowStep rs sets state row to = (byte : ℕ) → IsRow (all_classes rs) byte row → IsStep rs sets state byte to

-- the steps of a state that is ready, in the states that were added
pub record HasSteps (rs : List (Re (List ℕ))) (width : ℕ) (rows old new : List (List ℕ)) (state : ℕ) (next : List ℕ) (steps : List (Option ℕ)) : Type 0 where
  pub ready : IsReady rs width new state next
  pub grows : Grows old new
  pub steps_are : AreSteps rs rows new state steps

-- the row of some byte
pub record IsColumn (rs : List (Re (List ℕ))) (width : ℕ) (row : List ℕ) : Type 0 where
  pub long : length row ≡ width
  pub byte : ℕ
  pub fits : byte < 256
  pub is : IsRow (all_classes rs) byte row

-- the step over a row, from any state behind whose texts these numbers may come
abbrev pub AddsStep : List (List ℕ) → List (List ℕ) → List ℕ → List ℕ → Option ℕ → Type 0
AddsStep old new next row to = (rs : List (Re (List ℕ))) (width state : ℕ) → length next ≡ width → IsReady rs width old state next → IsColumn rs width row → Added rs width old new × RowStep rs new state row to

-- the steps over all rows
abbrev pub AddsSteps : List (List ℕ) → List (List ℕ) → List ℕ → List (List ℕ) → List (Option ℕ) → Type 0
AddsSteps old new next rows steps = (rs : List (Re (List ℕ))) (width state : ℕ) → length next ≡ width → IsReady rs width old state next → ((k : ℕ) (row : List ℕ) → slice_get rows k ≡ Some row → IsColumn rs width row) → HasSteps rs width rows old new state next steps

-- ---- the rules that match

-- the rules so far, and the one at the index where it ends
abbrev pub noted : List ℕ → Bool → ℕ → List ℕ
noted rules true index = rules ++ (index + 1) ∷ []
noted rules false index = rules

-- a word of the rule at the index may end at a place of the set, or it is entered and may be empty
pub record EndsAt (rs : List (Re (List ℕ))) (S : ℕ → Bool) (entered : Bool) (index : ℕ) : Type 0 where
  pub pattern : Re (List ℕ)
  pub at : slice_get rs index ≡ Some pattern
  pub ends : (number from : ℕ) → number ≡ suc index → from ≡ all_letters (take index rs) → exit S (with_places number from pattern) entered ≡ true

-- the rule is that of an index below the limit, and ends
abbrev pub EndsBelow : List (Re (List ℕ)) → (ℕ → Bool) → Bool → ℕ → ℕ → Type 0
EndsBelow rs S entered below rule = (index : ℕ) × (rule ≡ suc index) × (index < below) × EndsAt rs S entered index

-- all rules that end, among those below the index
abbrev pub AreEnding : List (Re (List ℕ)) → (ℕ → Bool) → Bool → ℕ → List ℕ → Type 0
AreEnding rs S entered below rules = ListsAll (EndsBelow rs S entered below) rules

-- What may come behind a set, entered or not, and the rules that end there.
pub record IsAfter (rs : List (Re (List ℕ))) (entered : Bool) (set next rules : List ℕ) : Type 0 where
  pub long : length next ≡ length set
  pub nexts_only : (n : ℕ) → bit next n ≡ true → Contains (nexts (bit set) (whole rs) entered) n
  pub nexts_all : (n : ℕ) → n < 64 * length set → Contains (nexts (bit set) (whole rs) entered) n → bit next n ≡ true
  pub ending : AreEnding rs (bit set) entered (length rs) rules

-- ---- all states

-- A pattern's class has a byte.
abbrev pub HasSome : List ℕ → Type 0
HasSome class = (b : ℕ) × Contains class b

-- no class and no choice of the patterns is empty
abbrev pub AreFull : List (Re (List ℕ)) → Type 0
AreFull [] = Unit {0}
AreFull (r ∷ rs) = IsFull HasSome r × AreFull rs

-- all states, of which there are at most so many beside the start, and all their steps
pub record IsBuilt (rs : List (Re (List ℕ))) (rows : List (List ℕ)) (width limit : ℕ) (sets : List (List ℕ)) (steps : List (List (Option ℕ))) : Type 0 where
  pub states : HasStates rs width sets
  pub few : length sets ≤ limit + 1
  pub all : length steps ≡ length sets
  pub steps_are : IsStepped rs rows sets steps

-- the rules that match the texts of each state
abbrev pub AreRulesOf : List (Re (List ℕ)) → List (List ℕ) → List (List ℕ) → Type 0
AreRulesOf rs sets rules = (k : ℕ) (x : List ℕ) → k < length rules → StandsFor rs sets k x → AreSpelled rs x (slice_index_or rules k [])

abbrev pub option_lists : List (Vec (Option ℕ) Global) → List (List (Option ℕ))
option_lists = map (λ v. v.items)

-- each row is that of a byte
abbrev pub AreRowsOf : List (Re (List ℕ)) → ℕ → List (List ℕ) → Type 0
AreRowsOf rs width rows = (k : ℕ) (row : List ℕ) → slice_get rows k ≡ Some row → IsColumn rs width row

-- the rules were walked over a set: what may come behind was put, and these end
pub record IsWalkedAll (rs : List (Re (List ℕ))) (entered : Bool) (set old new rules : List ℕ) : Type 0 where
  pub puts : Puts old new (nexts (bit set) (whole rs) entered)
  pub ending : AreEnding rs (bit set) entered (length rs) rules

-- the start alone, whatever the patterns are
abbrev pub IsStart : ℕ → List (List ℕ) → Type 0
IsStart width sets = (rs : List (Re (List ℕ))) → HasStates rs width sets

-- the row of the state has the column
abbrev pub HasColumn : List (List (Option ℕ)) → ℕ → ℕ → Type 0
HasColumn steps state column = (row : List (Option ℕ)) → slice_get steps state ≡ Some row → column < length row

abbrev pub step_in : List (List (Option ℕ)) → ℕ → ℕ → Option ℕ
step_in steps state column = slice_index_or (slice_index_or steps state []) column None
