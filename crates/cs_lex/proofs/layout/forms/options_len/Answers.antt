-- One run of blanks or known word more.
use Rattle.std.proofs.Common.{◌∙◌, ◌+◌, ap, arith, length}
use Rattle.std.proofs.lemmas.List.{length-drop}
use Rattle.cs_lex.specs.Layout.Lines.{option_size}
use Rattle.cs_lex.specs.Layout.Steps.{here}
use Rattle.cs_lex.proofs.OnLayout.Walks.{sized_push}
use Rattle.cs_lex.proofs.layout.forms.options_len.Goals as goal

pub loop-size-init : goal.loop-size-init
loop-size-init c = record { units = here; is = c.option_size-size.ensures.size; within = omega (arith, c.option_size-size.ensures.within) }

pub loop-size-preserved : goal.loop-size-preserved
loop-size-preserved c = record {
  units = sized_push option_size c.args.line.now c.loop-size.at c.loop-size.size c.loop-size.invariant.units c.loop-size.invariant.is c.loop-size-test.true;
  is = c.option_size-size-in-loop-size.ensures.size ∙ ap option_size c.from_offset.ensures;
  within = omega (arith, c.loop-size.invariant.within, c.option_size-size-in-loop-size.ensures.within, ap length c.from_offset.ensures, length-drop (c.loop-size.at + c.loop-size.size) c.args.line.now);
}
