-- What holds of an automaton's tables.
use Rattle.std.specs.Prelude.{◌≡◌, ℕ, ◌*◌, ◌<◌, ◌≤◌, ◌+◌, List, Option, None, [], length, slice_get, Some, slice_index, slice_index_or}
use Rattle.cs_pattern_parts.specs.Items.Members.{picked}
use Rattle.cs_scanner.specs.Automaton.Bits.{bit}
use Rattle.cs_scanner.specs.Automaton.Re.{Re}
use Rattle.cs_scanner.specs.Automaton.States.{AreFull, AreRulesOf, HasStates, IsStep}

-- the numbers of a set, ascending
abbrev pub members : List ℕ → List ℕ
members words = picked (bit words) (64 * length words)

-- the step by a byte
abbrev pub step_at : List (List (Option ℕ)) → List ℕ → ℕ → ℕ → Option ℕ
step_at steps column_of state byte = slice_index_or (slice_index_or steps state []) (slice_index column_of byte) None

pub record AreTables (rs : List (Re (List ℕ))) (sets : List (List ℕ)) (steps : List (List (Option ℕ))) (column_of : List ℕ) (rules : List (List ℕ)) : Type 0 where
  pub full : AreFull rs
  pub width : ℕ
  pub states : HasStates rs width sets
  pub few : length sets ≤ 16384 + 1
  pub columns : length column_of ≡ 256
  pub rows : length steps ≡ length sets
  pub columns_within : (k byte : ℕ) (row : List (Option ℕ)) → slice_get steps k ≡ Some row → byte < 256 → slice_index column_of byte < length row
  pub step : (k byte : ℕ) → k < length sets → byte < 256 → IsStep rs sets k byte (step_at steps column_of k byte)
  pub within : (k byte j : ℕ) → k < length sets → byte < 256 → step_at steps column_of k byte ≡ Some j → j < length sets
  pub rules_are : AreRulesOf rs sets rules
  pub each : length rules ≡ length sets
