use Rattle.std.proofs.Common.{ℕ, List, length}
use Rattle.cs_lines.specs.Lines.Read.{names_in}
use Rattle.cs_check.specs.Passing.Head.{mark_at, IsBehindName}
use Rattle.cs_check.specs.Checking.Claims.{AreWholeSets, AreSameButNext, IsWithBehind}
use Rattle.cs_check.proofs.OnChecking.Named.{AreTaken}
use Rattle.cs_check.proofs.checking.marks.put_next.Given as goal

abbrev pub invariant-loop-name : goal.invariant-loop-name
invariant-loop-name l = record {
  whole : AreWholeSets l.file.grammar l.sets;
  same : AreSameButNext l.initial.sets l.sets;
  taken : AreTaken (IsBehindName l.file) (λ (taken : List (List ℕ)). IsWithBehind l.file taken (mark_at l.mark) l.initial.sets l.sets) (names_in l.names) (names_in l.rest);
}

abbrev pub decreases-loop-name : goal.decreases-loop-name
decreases-loop-name l = length (names_in l.rest)
