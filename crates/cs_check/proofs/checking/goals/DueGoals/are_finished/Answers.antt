-- The list is at its end where no goal comes next.
use Rattle.std.proofs.Common.{◌≡◌, ◌∷◌, [], List, subst}
use Rattle.std.specs.Prelude.{IfNone, IfSome}
use Rattle.cs_goals.specs.declared.goal.Goal.{Goal}
use Rattle.cs_check.proofs.OnDueGoals.{finished_told}
use Rattle.cs_check.proofs.checking.goals.DueGoals.are_finished.Goals as goal

pub returns : goal.returns
returns c g above knows =
    let same = c.copied-left.ensures in
    finished_told g above c.args.self.now knows c.next.result c.next.new.self c.is_none.result
    (subst (λ (l : List Goal). IfSome c.next.result (λ (x : Goal). l ≡ x ∷ c.next.new.self)) same c.next.ensures.some)
    (subst (λ (l : List Goal). IfNone c.next.result ((l ≡ []) × (c.next.new.self ≡ []))) same c.next.ensures.none)
    c.is_none.ensures
