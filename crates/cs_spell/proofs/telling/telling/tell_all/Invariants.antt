use Rattle.std.proofs.Common.{◌≡◌, ℕ, suc, Some, length}
use Rattle.std.specs.Prelude.{slice_get}
use Rattle.cs_pattern_parts.specs.declared.kind.Kind.{Kind}
use Rattle.cs_spell.specs.Telling.Seen.{all_told, making_of}
use Rattle.cs_spell.specs.Telling.Spelling.{IsTold}
use Rattle.cs_spell.specs.Telling.Told as spec
use Rattle.cs_spell.proofs.telling.telling.tell_all.Given as goal

abbrev pub invariant-loop-place : goal.invariant-loop-place
invariant-loop-place l = record {
  all : length l.told.items ≡ l.place;
  each : (k : ℕ) (kind : Kind) (t : spec.Told) → slice_get l.tools.work.now.scanner.now.kinds.now k ≡ Some kind → slice_get (all_told l.told.items) k ≡ Some t → IsTold (making_of l.tools) (suc k) kind t;
}
