-- One unit more, which lies within the text.
use Rattle.std.proofs.Common.{ap, arith, length}
use Rattle.std.proofs.lemmas.List.{length-drop}
use Rattle.cs_lex.specs.Layout.Patterns.{IsUnit}
use Rattle.cs_lex.specs.Layout.Steps.{here}
use Rattle.cs_lex.proofs.OnLayout.Walks.{units_push}
use Rattle.cs_lex.proofs.layout.pattern.pattern_size.Goals as goal

pub loop-at-init : goal.loop-at-init
loop-at-init c = record { units = here; within = omega arith }

pub loop-at-preserved : goal.loop-at-preserved
loop-at-preserved c = record {
  units = units_push IsUnit c.args.text.now c.from_offset-in-loop-at.result.now c.loop-at.at c.unit_size-at.result c.loop-at.invariant.units c.from_offset-in-loop-at.ensures c.unit_size-at.ensures.unit;
  within = omega (arith, c.loop-at.invariant.within, c.unit_size-at.ensures.within.1, ap length c.from_offset-in-loop-at.ensures, length-drop c.loop-at.at c.args.text.now);
}
