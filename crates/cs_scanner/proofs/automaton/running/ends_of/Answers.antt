-- No many, no ends.
use Rattle.std.proofs.Common.{◌∙◌}
use Rattle.cs_scanner.proofs.OnAutomaton.Walking.{no_ends}
use Rattle.cs_scanner.proofs.automaton.running.ends_of.Goals as goal

pub returns-then-not-rule : goal.returns-then-not-rule
returns-then-not-rule c = λ from r is. c.new.ensures.items ∙ no_ends c.args.rule.now c.args.set.now c.if-not-rule.true from r is
