-- An idle rule, or a rule that is walked.
use Rattle.cs_scanner.proofs.OnAutomaton.Walking.{idle_walked, ok_walked}
use Rattle.cs_scanner.proofs.automaton.running.walk.Goals as goal

pub returns-then-is_idle : goal.returns-then-is_idle
returns-then-is_idle c = idle_walked c.args.rule.now c.args.set.now c.args.next.now c.args.entered c.if-not-entered.true (c.is_idle.ensures c.if-is_idle.true)

pub returns : goal.returns
returns c =
    ok_walked c.args.rule.now c.args.set.now c.args.next.now c.walk_on.new.next c.args.entered c.in_ok-ends.ends.items c.deref.result.now c.walk_on.result
    c.deref.ensures.value c.in_ok-ends.ensures c.walk_on.ensures.ends c.walk_on.ensures.next
