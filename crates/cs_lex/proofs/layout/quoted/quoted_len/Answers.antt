-- One escape or byte more.
use Rattle.std.proofs.Common.{◌∙◌, ◌+◌, ap, arith, length}
use Rattle.std.proofs.lemmas.List.{length-drop}
use Rattle.cs_lex.specs.Layout.Patterns.{quoted_unit_size}
use Rattle.cs_lex.specs.Layout.Steps.{here}
use Rattle.cs_lex.proofs.OnLayout.Walks.{sized_push}
use Rattle.cs_lex.proofs.layout.quoted.quoted_len.Goals as goal

pub loop-size-init : goal.loop-size-init
loop-size-init c = record { units = here; is = c.quoted_unit_size-size.ensures.size; within = omega (arith, c.quoted_unit_size-size.ensures.within) }

pub loop-size-preserved : goal.loop-size-preserved
loop-size-preserved c = record {
  units = sized_push quoted_unit_size c.args.text.now c.loop-size.at c.loop-size.size c.loop-size.invariant.units c.loop-size.invariant.is c.loop-size-test.true;
  is = c.quoted_unit_size-size-in-loop-size.ensures.size ∙ ap quoted_unit_size c.from_offset.ensures;
  within = omega (arith, c.loop-size.invariant.within, c.quoted_unit_size-size-in-loop-size.ensures.within, ap length c.from_offset.ensures, length-drop (c.loop-size.at + c.loop-size.size) c.args.text.now);
}
