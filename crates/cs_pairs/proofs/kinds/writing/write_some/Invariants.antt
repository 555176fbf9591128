use Rattle.std.proofs.Common.{reverse}
use Rattle.cs_least.specs.Cost.Parts.{IsGrown}
use Rattle.cs_pairs.proofs.OnKinds.Written.{Writes}
use Rattle.cs_pairs.proofs.kinds.writing.write_some.Given as goal

abbrev pub invariant-loop : goal.invariant-loop
invariant-loop l =
    Writes l.kinds.weights l.kinds.grammar (reverse l.initial.pending.items) l.initial.into (reverse l.pending.items) l.into l.counter
    × IsGrown l.initial.into l.into
