use Rattle.std.proofs.Common.{◌+◌, ◌<◌}
use Rattle.cs_member.specs.Tables.Fronts.{AreEntered}
use Rattle.cs_member.proofs.tables.fronts.fronts_of.Given as goal

abbrev pub invariant-loop-place : goal.invariant-loop-place
invariant-loop-place l = AreEntered l.grammar (λ x. x.rule < l.place + 1) l.fronts
