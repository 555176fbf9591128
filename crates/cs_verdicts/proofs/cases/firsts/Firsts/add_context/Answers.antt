-- A recent context is there with its rule, and any other is there once its rule and then itself are put.
use Rattle.std.proofs.Common.{ℕ, List, [], ◌∷◌, sym, subst}
use Rattle.std.proofs.lemmas.List.Elements.{Contains-push}
use Rattle.cs_goals.specs.declared.goal.Goal.{Goal}
use Rattle.cs_goals.specs.declared.goal.Goal.TheVariants.{Rule, Context}
use Rattle.cs_verdicts.specs.Cases.Firsts.{IsRecent}
use Rattle.cs_verdicts.specs.Cases.Table.{AreAllAdded, IsGrown}
use Rattle.cs_verdicts.proofs.OnCases.Adding.{added_both, added_has, added_one, context_there}
use Rattle.cs_verdicts.proofs.OnCases.Keyed.{on_true}
use Rattle.cs_verdicts.proofs.OnCases.Numbered.{has_recent, recent_has}
use Rattle.cs_verdicts.proofs.cases.firsts.Firsts.add_context.Goals as goal
use Rattle.cs_verdicts.proofs.cases.firsts.Firsts.add_context.Goals.{In_ok-put}

pub returns-then-is_recent-clause-added : goal.returns-then-is_recent-clause-added
returns-then-is_recent-clause-added c =
    let goal = Context c.args.occurrence.outer c.args.occurrence.place c.args.occurrence.inner in
    let recent = on_true c.is_recent.result (IsRecent c.args.self.now c.goal_number-number.result) c.if-is_recent.true c.is_recent.ensures.recent in
    context_there c.args.self.now c.args.occurrence.outer c.args.occurrence.place c.args.occurrence.inner c.args.case c.is_recent.ensures.ruled
    (recent_has c.args.self.now goal c.goal_number-number.result c.goal_number-number.ensures.number c.goal_number-number.ensures.small recent)

pub put-requires : goal.put-requires
put-requires c = c.in_ok-add.ensures.added.every (Rule c.args.occurrence.inner) (Contains-push [] (Rule c.args.occurrence.inner))

pub keep_recent-requires : goal.keep_recent-requires
keep_recent-requires c =
    let goal = Context c.args.occurrence.outer c.args.occurrence.place c.args.occurrence.inner in
    has_recent c.put.new.self goal c.goal_number-number.result c.goal_number-number.ensures.number c.goal_number-number.ensures.small
    (added_has c.add.new.self c.put.new.self goal c.args.case c.in_ok-put.ensures.added)

both_added : (c : In_ok-put) → AreAllAdded c.args.self.now (Rule c.args.occurrence.inner ∷ Context c.args.occurrence.outer c.args.occurrence.place c.args.occurrence.inner ∷ []) c.args.case c.put.new.self
both_added c =
    let rule = Rule c.args.occurrence.inner in
    let goal = Context c.args.occurrence.outer c.args.occurrence.place c.args.occurrence.inner in
    added_both c.args.self.now c.add.new.self c.put.new.self (rule ∷ []) (goal ∷ []) c.args.case
    c.in_ok-add.ensures.added (added_one c.add.new.self c.put.new.self goal c.args.case c.in_ok-put.ensures.added)

pub returns-clause-added : goal.returns-clause-added
returns-clause-added c =
    subst (λ (l : List (Goal × ℕ)). AreAllAdded c.args.self.now (Rule c.args.occurrence.inner ∷ Context c.args.occurrence.outer c.args.occurrence.place c.args.occurrence.inner ∷ []) c.args.case l) (sym c.keep_recent.ensures) (both_added (goal.at.returns-clause-added c).In_ok-put)

pub returns-clause-grown : goal.returns-clause-grown
returns-clause-grown c =
    subst (λ (l : List (Goal × ℕ)). IsGrown c.args.self.now l) (sym c.keep_recent.ensures) (both_added (goal.at.returns-clause-grown c).In_ok-put).grown
