-- The columns of the bytes so far.
use Rattle.std.proofs.Common.{◌≡◌, ℕ, ◌<◌, ◌≤◌, List, Some, length}
use Rattle.std.specs.Prelude.{slice_get, slice_index}
use Rattle.cs_scanner.specs.Automaton.Programs.{values}
use Rattle.cs_scanner.specs.Automaton.Sets.{lists}
use Rattle.cs_scanner.specs.Automaton.States.{IsRow}
use Rattle.cs_scanner.proofs.automaton.columns.make_columns.Given as goal

abbrev pub invariant-loop-byte : goal.invariant-loop-byte
invariant-loop-byte l = record {
  many : length l.column_of.items ≡ l.byte;
  few : length (lists l.rows.keys) ≤ l.byte;
  found : (b : ℕ) → b < l.byte → (row : List ℕ) × (slice_get (lists l.rows.keys) (slice_index l.column_of.items b) ≡ Some row) × IsRow (values l.classes) b row;
  some : (k : ℕ) (row : List ℕ) → slice_get (lists l.rows.keys) k ≡ Some row → (length row ≡ l.width) × ((b : ℕ) × (b < 256) × IsRow (values l.classes) b row);
}
