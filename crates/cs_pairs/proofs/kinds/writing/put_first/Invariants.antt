use Rattle.std.proofs.Common.{◌≡◌, ◌++◌, reverse, drop}
use Rattle.cs_pairs.specs.Kinds.Parts.{parts_from, inner}
use Rattle.cs_pairs.proofs.kinds.writing.put_first.Given as goal

abbrev pub invariant-loop-index : goal.invariant-loop-index
invariant-loop-index l =
    reverse l.pending.items ≡ inner (parts_from l.kind l.place l.index (drop l.index l.symbols)) ++ reverse l.initial.pending.items
