-- Sign by sign, and where one is missing, so many don't stand in front.
use Rattle.std.proofs.Common.{ap, arith, length}
use Rattle.std.proofs.lemmas.List.{length-drop}
use Rattle.cs_lex.proofs.OnActions.SignRuns.{no_signs, signs_none, signs_push}
use Rattle.cs_lex.proofs.actions.returns.signs_size.Goals as goal

pub returns-in_err-at-clause-none : goal.returns-in_err-at-clause-none
returns-in_err-at-clause-none c =
    rw c.from_residual.ensures (no_signs c.args.sign c.args.text.now c.from_offset.result.now c.loop-passed.passed c.loop-passed.at c.args.count c.loop-passed.invariant.signs c.loop-passed-test.true c.from_offset.ensures c.in_err-at.ensures.none)

pub loop-passed-init : goal.loop-passed-init
loop-passed-init c = record { signs = signs_none c.args.sign c.args.text.now; within = omega arith }

pub loop-passed-preserved : goal.loop-passed-preserved
loop-passed-preserved c = record {
  signs = signs_push c.args.sign c.args.text.now c.from_offset.result.now c.loop-passed.passed c.loop-passed.at c.in_ok-at.field-0 c.loop-passed.invariant.signs c.from_offset.ensures c.in_ok-at.ensures.signed;
  within = omega (arith, c.loop-passed.invariant.within, c.in_ok-at.ensures.within.1, ap length c.from_offset.ensures, length-drop c.loop-passed.at c.args.text.now);
}
