-- The goals behind the first are the grammar's and can be judged too, and a verdict keeps true contexts.
use Rattle.std.proofs.Common.{List, sym, ◌∙◌, subst}
use Rattle.std.specs.Prelude.{All}
use Rattle.std.proofs.lemmas.List.Elements.{All-tail}
use Rattle.cs_goals.specs.declared.goal.Goal.{Goal}
use Rattle.cs_verdicts.proofs.OnPositive.Judged.{first_goal}
use Rattle.cs_verdicts.specs.Positive.Judges.{judged_by, CanJudge}
use Rattle.cs_verdicts.proofs.positive.positive.Positives.next.Goals as goal

pub invariant_of-self : goal.invariant_of-self
invariant_of-self c = (c.self.invariant.0, c.self.invariant.1, c.make_room.ensures (judged_by c.self.inside.judge) c.self.invariant.2)

pub invariant_of-self-in_err-verdict : goal.invariant_of-self-in_err-verdict
invariant_of-self-in_err-verdict c = (c.self.invariant.0, c.self.invariant.1, c.verdict.ensures.contexts)

pub invariant_of-self-2 : goal.invariant_of-self-2
invariant_of-self-2 c =
    let judge = c.self.inside.judge in
    let split = sym c.copied-goals.ensures ∙ c.in-Some.ensures.some in (
      (first_goal (judged_by judge).grammar _ c.in-Some.goal c.next.new.self split c.self.invariant.0).1,
      All-tail (CanJudge judge) c.in-Some.goal c.next.new.self (subst (λ (l : List Goal). All (CanJudge judge) l) split c.self.invariant.1),
      c.verdict.ensures.contexts,
    )
