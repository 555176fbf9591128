-- Each sign is one more, and behind the last none stands.
use Rattle.std.proofs.Common.{ap, arith, length}
use Rattle.std.proofs.lemmas.List.{length-drop}
use Rattle.cs_lex.proofs.OnActions.SignRuns.{signs_push, signs_none, no_sign_there}
use Rattle.cs_lex.proofs.actions.sign.all_signs.Goals as goal

pub loop-size-init : goal.loop-size-init
loop-size-init c = record { signs = signs_none c.args.sign c.args.text.now; within = omega arith; few = omega arith }

pub loop-size-preserved : goal.loop-size-preserved
loop-size-preserved c = record {
  signs = signs_push c.args.sign c.args.text.now c.from_offset.result.now c.loop-size.count c.loop-size.at c.in-Some.size c.loop-size.invariant.signs c.from_offset.ensures c.in-Some.ensures.signed;
  within = omega (arith, c.loop-size.invariant.within, c.in-Some.ensures.within.1, ap length c.from_offset.ensures, length-drop c.loop-size.at c.args.text.now);
  few = omega (arith, c.loop-size.invariant.few, c.in-Some.ensures.within.0);
}

pub returns-clause-no_more : goal.returns-clause-no_more
returns-clause-no_more c = no_sign_there c.args.sign c.args.text.now c.from_offset.result.now c.loop-size.at c.from_offset.ensures c.in_default.ensures.none
