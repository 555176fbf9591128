-- A recent goal has a number already, and any other has one once it is put.
use Rattle.std.proofs.Common.{ℕ, List, [], ◌∷◌, refl, sym, subst}
use Rattle.cs_verdicts.proofs.OnCases.Adding.{added_has, added_one, added_there}
use Rattle.cs_verdicts.proofs.OnCases.Keyed.{on_true}
use Rattle.cs_verdicts.proofs.OnCases.Numbered.{has_recent, recent_has}
use Rattle.cs_verdicts.specs.Cases.Firsts.{IsRecent}
use Rattle.cs_verdicts.specs.Cases.Table.{AreAllAdded}
use Rattle.cs_goals.specs.declared.goal.Goal.{Goal}
use Rattle.cs_verdicts.proofs.cases.firsts.Firsts.add.Goals as goal

pub returns-then-is_recent-clause-added : goal.returns-then-is_recent-clause-added
returns-then-is_recent-clause-added c =
    let recent = on_true c.is_recent.result (IsRecent c.args.self.now c.goal_number-number.result) c.if-is_recent.true c.is_recent.ensures.recent in
    added_there c.args.self.now c.args.self.now c.args.goal c.args.case
    (recent_has c.args.self.now c.args.goal c.goal_number-number.result c.goal_number-number.ensures.number c.goal_number-number.ensures.small recent) refl

pub keep_recent-requires : goal.keep_recent-requires
keep_recent-requires c =
    has_recent c.put.new.self c.args.goal c.goal_number-number.result c.goal_number-number.ensures.number c.goal_number-number.ensures.small
    (added_has c.args.self.now c.put.new.self c.args.goal c.args.case c.in_ok-put.ensures.added)

pub returns-clause-added : goal.returns-clause-added
returns-clause-added c =
    subst (λ (l : List (Goal × ℕ)). AreAllAdded c.args.self.now (c.args.goal ∷ []) c.args.case l) (sym c.keep_recent.ensures) (added_one c.args.self.now c.put.new.self c.args.goal c.args.case c.in_ok-put.ensures.added)
