-- The states that texts lead to, each with the least text that leads there.
use Rattle.std.specs.Prelude.{◌≡◌, ◌≢◌, ℕ, ◌<◌, List, [], Some, length, slice_get, slice_index_or}
use Rattle.cs_pattern_parts.specs.Items.StandsFor.{AreBytes}
use Rattle.cs_scanner.specs.Automaton.Machine.{Machine, StateOf, IsBegun, patterns_of}
use Rattle.cs_scanner.specs.Lexeme.Order.{IsAtMost, IsBefore}

-- a state, and a text that leads there
pub record StateText : Type 0 where
  pub state : ℕ
  pub text : List ℕ

-- the text has a byte at least, and the state stands for it
pub record IsStateText (m : Machine) (t : StateText) : Type 0 where
  pub within : t.state < length m.sets
  pub stands : StateOf m t.state t.text
  pub some : t.text ≢ []
  pub bytes : AreBytes t.text

-- a state that stands for the text is among them, with a text that is at most this one
pub record IsMetSoon (m : Machine) (met : List StateText) (text : List ℕ) : Type 0 where
  pub place : ℕ
  pub entry : StateText
  pub at : slice_get met place ≡ Some entry
  pub stands : StateOf m entry.state text
  pub soon : IsAtMost entry.text text

-- The states with their texts, which come in the order of lexemes. Each text of at least one byte with which a text of some
-- rule begins leads to one of these states, and comes in front of the text that stands there nowhere.
pub record AreStateTexts (m : Machine) (met : List StateText) : Type 0 where
  pub each : (k : ℕ) (t : StateText) → slice_get met k ≡ Some t → IsStateText m t
  pub rise : (j k : ℕ) (t u : StateText) → j < k → slice_get met j ≡ Some t → slice_get met k ≡ Some u → IsBefore t.text u.text
  pub all : (text : List ℕ) → AreBytes text → text ≢ [] → IsBegun (patterns_of m) text → IsMetSoon m met text

-- the one at the place
abbrev pub entry_in : List StateText → ℕ → StateText
entry_in met place = slice_index_or met place (record { state = 0; text = [] })
