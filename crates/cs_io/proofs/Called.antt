-- What a call that writes lines did to its sink, in one fact.
use Rattle.std.proofs.Common.{◌≡◌, ◌≤◌, List, ℕ, length, inl, inr}
use Rattle.std.proofs.lemmas.Bool.{cases_lt}
use Rattle.cs_io.specs.Faults.{Rose}
use Rattle.cs_io.specs.declared.sink.Sink as Sink
use Rattle.cs_io.specs.Lines.{HasRoom, IsCutShort, IsWritten, LeavesRoom, Took, TookPart}

module _ {S : Type 0} (g : Sink.Ghosts S) (lines : List ℕ) (old new : S) where
  pub is_written : Took g.written old new lines → g.faults new ≡ g.faults old → LeavesRoom g.room old new lines → g.lent new ≡ g.lent old → g.passed old ≤ g.passed new
      → IsWritten g lines old new
  is_written took no_fault room lent passed = record { written = took; no_fault = no_fault; room = room; lent = lent; passed = passed }

  -- a call that fails had no room
  pub is_cut : TookPart g.written old new lines → Rose (g.faults old) (g.faults new) → g.faults old ≤ g.faults new → (HasRoom g.room old lines → ⊥) → g.lent new ≡ g.lent old → g.passed old ≤ g.passed new
      → IsCutShort g lines old new
  is_cut part fault faults full lent passed = record {
    written = part;
    fault = fault;
    faults = faults;
    room = elim (cases_lt (g.room old) (length lines)) [ inl less ↦ less | inr fits ↦ absurd (full fits) ];
    lent = lent;
    passed = passed;
  }
