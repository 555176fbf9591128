use Rattle.std.proofs.Common.{◌≡◌, ◌+◌, take}
use Rattle.cs_writing.specs.Plan.Made.{entries_of}
use Rattle.cs_writing.specs.Writing.Mutants.{Keeps}
use Rattle.cs_writing.proofs.writing.bases.keep_bases.Given as goal

abbrev pub invariant-loop-made : goal.invariant-loop-made
invariant-loop-made l = record {
  before : l.before ≡ l.fn.number + l.made-index;
  kept : Keeps l.fn.number (entries_of (take l.made-index l.batch)) l.fn.bases l.bases;
}
