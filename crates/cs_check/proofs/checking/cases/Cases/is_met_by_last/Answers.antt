-- The tokens that are held tell which pairs the last case meets; its derivation tells the other goals.
use Rattle.std.proofs.Common.{◌<◌, ◌↔◌, ℕ, Bool, List, length, sym, ap, subst, arith}
use Rattle.std.specs.Prelude.{IfOk, IsTrue}
use Rattle.cs_grammar.specs.Sentence.{framed, IsFollowed}
use Rattle.cs_goals.specs.declared.goal.Goal.{Goal}
use Rattle.cs_goals.specs.declared.goal.Goal.TheVariants.{Pair}
use Rattle.cs_goals.specs.Meets.{IsMeeting}
use Rattle.cs_check.specs.Passing.Entries.{IsLast}
use Rattle.cs_check.specs.Checking.Cases.{PlainCases, DecidesMeeting}
use Rattle.cs_check.proofs.OnChecking.Cases.{held, pair_met}
use Rattle.cs_check.proofs.checking.cases.Cases.is_met_by_last.Goals as goal

pub meets-requires : goal.meets-requires
meets-requires c =
    let items = c.self.inside.list.items in
    let long = ap (λ (s : PlainCases). length s.list) c.self.view_is in
    let some : 0 < length items = omega arith in
    let yields = held c.self.inside.grammar.now items c.self.inside.last c.self.inside.tokens.items some c.self.invariant.1 in
    (yields.tree, yields.is_tree, yields.code)

pub returns-in-Pair : goal.returns-in-Pair
returns-in-Pair c = λ case last.
    let g = c.self.inside.grammar.now in
    let rules = c.self.inside.last in
    let met = c.has_pair.result in
    let pair : Goal = Pair c.in-Pair.left c.in-Pair.right in
    let holds = c.self.invariant.1 case (subst (λ (s : PlainCases). IsLast s.list case) (sym c.self.view_is) last) in
    let meets = pair_met g (c.one_tree.ensures g) rules c.self.inside.tokens.items holds.1 c.in-Pair.left c.in-Pair.right met
    (subst (λ (l : List ℕ). IsTrue met ↔ IsFollowed c.in-Pair.left c.in-Pair.right (framed l)) c.deref.ensures.value c.has_pair.ensures) in
    subst (λ (s : PlainCases). DecidesMeeting s c.args.goal.now case met) c.self.view_is
    (subst (λ (x : Goal). IsTrue met ↔ IsMeeting g x case.rules) (sym c.in-Pair.is)
    (subst (λ (r : List ℕ). IsTrue met ↔ IsMeeting g pair r) holds.0 meets))

pub returns-in_default : goal.returns-in_default
returns-in_default c = λ case last.
    let g = c.self.inside.grammar.now in
    let holds = c.self.invariant.1 case (subst (λ (s : PlainCases). IsLast s.list case) (sym c.self.view_is) last) in
    subst (λ (s : PlainCases). IfOk c.meets.result (λ (met : Bool). DecidesMeeting s c.args.goal.now case met)) c.self.view_is
    (subst (λ (r : List ℕ). IfOk c.meets.result (λ (met : Bool). IsTrue met ↔ IsMeeting g c.args.goal.now r)) holds.0 c.meets.ensures)
