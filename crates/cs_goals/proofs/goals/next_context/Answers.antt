-- No context goal is left, and none past the last rule.
use Rattle.std.proofs.Common.{List, length, ap, arith}
use Rattle.std.proofs.lemmas.Option.{MatchOption-at_none}
use Rattle.cs_grammar.specs.Grammar.{Production}
use Rattle.cs_goals.proofs.Remaining.{contexts_left_past}
use Rattle.cs_goals.proofs.goals.next_context.Goals as goal

pub returns-in-None : goal.returns-in-None
returns-in-None c = (
  MatchOption-at_none _ _ c.in-None.is c.next_occurrence.ensures,
  contexts_left_past c.args.grammar.now _ _ _ (omega (arith, ap (λ (l : List Production). length l) c.rules.ensures.rules)),
)
