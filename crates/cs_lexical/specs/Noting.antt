-- How the numbers of texts are noted, state by state. Working words of proofs.
use Rattle.std.specs.Prelude.{◌≡◌, ℕ, zero, suc, ◌+◌, ◌-◌, ◌<◌, ◌≤◌, List, [], Contains, Option, None, Some, length, replicate, slice_get, slice_index, slice_index_or, slice_set}
use Rattle.cs_grammar.specs.Grammar.{IsNumberOf}
use Rattle.cs_scanner.specs.Automaton.Machine.{Machine, StateOf, patterns_of}
use Rattle.std.proofs.Common.{Vec, Global}
use Rattle.cs_scanner.specs.Lexeme.Texts.{text_of, texts_of}
use Rattle.cs_scanner.specs.Lexeme.StateTexts.{StateText, entry_in}
use Rattle.cs_lexical.specs.Least.{lists}
use Rattle.cs_lexical.specs.Winning.{Overlap, Wins}

-- an entry that is 0 becomes the number
abbrev pub noted : ℕ → ℕ → ℕ
noted zero number = number
noted (suc k) number = suc k

-- the number was noted for a rule, if there is one
abbrev pub NotesWin : Option ℕ → ℕ → List ℕ → List ℕ → Type 0
NotesWin None number old new = new ≡ old
NotesWin (Some rule) number old new = new ≡ slice_set old (rule - 1) (noted (slice_index old (rule - 1)) number)

-- in the row of a rule the number was noted for those of the rules that are behind it
pub record NotesRow (rule number : ℕ) (rules old new : List ℕ) : Type 0 where
  pub same : length new ≡ length old
  pub listed : (k : ℕ) → k < length old → Contains rules (rule + 1 + k) → slice_index new k ≡ noted (slice_index old k) number
  pub others : (k : ℕ) → k < length old → (Contains rules (rule + 1 + k) → ⊥) → slice_index new k ≡ slice_index old k

-- in the rows of these rules
pub record NotesRows (number : ℕ) (firsts rules : List ℕ) (old new : List (List ℕ)) : Type 0 where
  pub same : length new ≡ length old
  pub listed : (k : ℕ) (before after : List ℕ) → Contains firsts (k + 1) → slice_get old k ≡ Some before → slice_get new k ≡ Some after → NotesRow (k + 1) number rules before after
  pub others : (k : ℕ) → (Contains firsts (k + 1) → ⊥) → slice_get new k ≡ slice_get old k

-- each row is as long as there are rules behind its rule
pub record AreRows (rules : ℕ) (rows : List (List ℕ)) : Type 0 where
  pub all : length rows ≡ rules
  pub behind : (place : ℕ) (row : List ℕ) → slice_get rows place ≡ Some row → place + 1 + length row ≡ rules

-- the number of two rules
abbrev pub number_in : List (List ℕ) → ℕ → ℕ → ℕ
number_in rows rule other = slice_index (slice_index_or rows (rule - 1) []) (other - rule - 1)

-- the rows of the first rules, all of zeros
pub record AreBlank (rules count : ℕ) (rows : List (List ℕ)) : Type 0 where
  pub all : length rows ≡ count
  pub each : (place : ℕ) (row : List ℕ) → slice_get rows place ≡ Some row → row ≡ replicate (rules - place - 1) 0

-- ---- what was noted; the number of a state is its place and 1 more

-- all texts of the state at the place are P
abbrev pub IsWonAt : Machine → List StateText → (List ℕ → Type 0) → ℕ → Type 0
IsWonAt m met P place = (t : StateText) (x : List ℕ) → slice_get met place ≡ Some t → StateOf m t.state x → P x

-- none of them is
abbrev pub IsLostAt : Machine → List StateText → (List ℕ → Type 0) → ℕ → Type 0
IsLostAt m met P place = (t : StateText) (x : List ℕ) → slice_get met place ≡ Some t → StateOf m t.state x → P x → ⊥

-- this is the text of the place
abbrev pub IsTextAt : List StateText → ℕ → Option (Vec ℕ Global) → Type 0
IsTextAt met place text = text_of text ≡ Some ((entry_in met place).text)

-- the text of the place was kept
abbrev pub IsKept : List StateText → List (Option (List ℕ)) → ℕ → Type 0
IsKept met texts place = slice_index_or texts (place + 1) None ≡ Some ((entry_in met place).text)

-- The first place in front of the limit whose texts are P has this number, and its text was kept; or the number is 0, where
-- none is.
abbrev pub IsFirst : Machine → List StateText → (List ℕ → Type 0) → List (Option (List ℕ)) → ℕ → ℕ → Type 0
IsFirst m met P texts limit zero = (q : ℕ) → q < limit → IsLostAt m met P q
IsFirst m met P texts limit (suc k) = (k < limit) × IsWonAt m met P k × ((q : ℕ) → q < k → IsLostAt m met P q) × IsKept met texts k

-- what was noted of the places in front of the limit
pub record AreNoted (m : Machine) (met : List StateText) (limit : ℕ) (wins : List ℕ) (rows : List (List ℕ)) (texts : List (Option (List ℕ))) : Type 0 where
  pub kept : length texts ≡ limit + 1
  pub none : slice_index_or texts 0 None ≡ None
  pub rules : length wins ≡ length m.patterns
  pub are_rows : AreRows (length m.patterns) rows
  pub wins_are : (rule : ℕ) → IsNumberOf (length m.patterns) rule → IsFirst m met (Wins (patterns_of m) rule) texts limit (slice_index wins (rule - 1))
  pub both_are : (rule other : ℕ) → 0 < rule → rule < other → other ≤ length m.patterns → IsFirst m met (Overlap (patterns_of m) rule other) texts limit (number_in rows rule other)

-- all places were noted
abbrev pub NotesAll : Machine → List StateText → List ℕ → List (Vec ℕ Global) → List (Option (Vec ℕ Global)) → Type 0
NotesAll m met wins rows texts = AreNoted m met (length met) wins (lists rows) (texts_of texts)
