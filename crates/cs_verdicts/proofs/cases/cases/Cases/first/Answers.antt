-- A goal that the tree of some case meets has a number.
use Rattle.std.proofs.Common.{sym, subst}
use Rattle.cs_verdicts.specs.Cases.Cases.{PlainCases, HasMeeting}
use Rattle.cs_verdicts.proofs.cases.cases.Cases.first.Goals as goal

pub unreachable-requires : goal.unreachable-requires
unreachable-requires c =
    let h = subst (λ (v : PlainCases). HasMeeting v c.args.goal.now) (sym c.self.view_is) c.requires in
    let has = c.self.invariant.every h.0 h.1 c.args.goal.now h.2 h.3 in
    c.in-None.ensures has.0 has.1
