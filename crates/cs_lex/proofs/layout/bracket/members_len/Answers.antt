-- One member more, and the inner run's end moves along with it.
use Rattle.std.proofs.Common.{◌∙◌, ◌+◌, ap, arith, length}
use Rattle.std.proofs.lemmas.List.{length-drop}
use Rattle.cs_bytes.specs.Classes.{is_inner}
use Rattle.cs_bytes.proofs.RunEnds.{end_behind, end_left}
use Rattle.cs_lex.specs.Layout.Patterns.{member_size}
use Rattle.cs_lex.specs.Layout.Steps.{here}
use Rattle.cs_lex.proofs.OnLayout.Walks.{sized_push}
use Rattle.cs_lex.proofs.layout.bracket.members_len.Goals as goal

pub loop-size-init : goal.loop-size-init
loop-size-init c = record { units = here; end = c.run_end-end.ensures; is = c.member_size-size.ensures.size; within = omega (arith, c.member_size-size.ensures.within) }

pub loop-size-preserved : goal.loop-size-preserved
loop-size-preserved c = record {
  units = sized_push member_size c.args.text.now c.loop-size.at c.loop-size.size c.loop-size.invariant.units c.loop-size.invariant.is c.loop-size-test.true;
  end = c.run_end-end-in-loop-size.ensures;
  is = c.member_size-size-in-loop-size.ensures.size ∙ ap member_size c.from_offset.ensures;
  within = omega (arith, c.loop-size.invariant.within, c.member_size-size-in-loop-size.ensures.within, ap length c.from_offset.ensures, length-drop (c.loop-size.at + c.loop-size.size) c.args.text.now);
}

pub run_end-end-requires-in-loop-size : goal.run_end-end-requires-in-loop-size
run_end-end-requires-in-loop-size c = end_behind is_inner c.args.text.now (c.loop-size.at + 2) (c.loop-size.at + c.loop-size.size + 2) c.loop-size.end c.loop-size.invariant.end (omega arith)

pub member_size-size-requires-in-loop-size : goal.member_size-size-requires-in-loop-size
member_size-size-requires-in-loop-size c = end_left is_inner c.args.text.now c.from_offset.result.now (c.loop-size.at + c.loop-size.size) 2 c.run_end-end-in-loop-size.result c.from_offset.ensures c.run_end-end-in-loop-size.ensures
