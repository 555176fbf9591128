-- The sink got all of the line; or it failed behind a prefix, and then it had no room for the whole.
use Rattle.std.proofs.Common.{◌≡◌, ◌≤◌, ◌+◌, ℕ, List, length, inl, inr, Result, Ok, Err, OnErr, OnOk}
use Rattle.std.specs.Prelude.{IsOk}
use Rattle.std.specs.Io.KnownBytes.{append_known}
use Rattle.std.proofs.lemmas.Bool.{cases_lt}
use Rattle.cs_io.specs.Faults.{Rose}
use Rattle.cs_io.specs.Lines.{Writes}
use Rattle.cs_io.specs.Sink.{GrewByPrefix}
use Rattle.cs_io.specs.declared.sink.Sink as Sink
use Rattle.cs_io.specs.declared.sink.SinkError.{SinkError}
use Rattle.cs_manifest.proofs.output.line.write_line.Goals as goal

-- what the call says of a piece, in one fact
in_one : {S : Type 0} (g : Sink.Ghosts S) (result : Result Unit SinkError) (lines : List ℕ) (old new : S) → OnOk result (g.written new ≡ append_known (g.written old) lines) → OnErr result (GrewByPrefix (g.written old) (g.written new) lines)
    → OnOk result (g.faults new ≡ g.faults old) → OnErr result (Rose (g.faults old) (g.faults new)) → g.faults old ≤ g.faults new → (length lines ≤ g.room old → IsOk result) → OnOk result (g.room old ≤ g.room new + length lines)
    → g.lent new ≡ g.lent old → g.passed old ≤ g.passed new → Writes g result lines old new
in_one g (Ok value) lines old new ok err no_fault fault faults with_room left lent passed = record {
  written = ok;
  no_fault = no_fault;
  room = left;
  lent = lent;
  passed = passed;
}
in_one g (Err error) lines old new ok err no_fault fault faults with_room left lent passed = record {
  written = err;
  fault = fault;
  faults = faults;
  room = elim (cases_lt (g.room old) (length lines)) [ inl less ↦ less | inr most ↦ absurd (let never = with_room most in cc) ];
  lent = lent;
  passed = passed;
}

pub returns : goal.returns
returns g c =
    let w = c.write_all.ensures in
    in_one g.S.Sink c.write_all.result c.args.line.now c.args.sink.now c.write_all.new.sink w.ok w.err w.no_fault w.fault w.faults_never_fall w.ok_with_room w.room_left w.same_lent w.passed_never_falls
