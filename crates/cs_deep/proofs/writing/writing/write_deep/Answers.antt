-- The output that was lent to the buffer is the one at hand, so it took what was written of the bases.
use Rattle.std.proofs.Common.{ap, rules, arith}
use Rattle.std.proofs.lemmas.Grind.{common_steps}
use Rattle.cs_io.proofs.Out.{grown, no_part, on_err, part_grown}
use Rattle.cs_deep.proofs.writing.writing.write_deep.Goals as goal

pub returns-clause-ok : goal.returns-clause-ok
returns-clause-ok g c = grown c.write_through.result _ _ _ _ _ (ap g.O.Sink.written c.new-sink.ensures.sink) (first_of (search rules, grind (arith, common_steps))) c.write_through.ensures.ok

pub returns-clause-part : goal.returns-clause-part
returns-clause-part g c = part_grown c.write_through.result _ _ _ _ _ (ap g.O.Sink.written c.new-sink.ensures.sink) (first_of (search rules, grind (arith, common_steps))) c.write_through.ensures.part

pub returns-in_err-buffer-clause-part : goal.returns-in_err-buffer-clause-part
returns-in_err-buffer-clause-part g c = on_err _ _ (no_part _ _)
