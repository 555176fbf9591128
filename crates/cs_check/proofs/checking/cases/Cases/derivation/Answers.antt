-- No derivation has a number above all rules', so the rules of the case are read as they stand.
use Rattle.std.proofs.Common.{◌≡◌, ◌<◌, Some, length, sym, ap, ◌∙◌, subst, arith}
use Rattle.std.specs.Prelude.{slice_get}
use Rattle.cs_lines.specs.Lines.Read.{numbers_in}
use Rattle.cs_check.specs.Checking.Cases.{PlainCase, PlainCases}
use Rattle.cs_check.proofs.OnChecking.Cases.{rules_at, same_rules}
use Rattle.cs_check.proofs.OnChecking.Deriving.{high_rule}
use Rattle.cs_check.proofs.checking.cases.Cases.derivation.Goals as goal

pub unreachable-requires : goal.unreachable-requires
unreachable-requires c =
    let g = c.self.inside.grammar.now in
    let items = c.self.inside.list.items in
    let rules = numbers_in c.behind-self.inside.rules in
    let long = ap (λ (s : PlainCases). length s.list) c.self.view_is in
    let low : c.args.place < length items = omega arith in
    let high = rw c.in-None.is at c.in_ok-derivation.ensures in
    high_rule g c.rules-well_formed.ensures.well_formed rules high.0 high.1 high.2
    (rules_at g items c.args.place c.index.result.now rules low c.self.invariant.0 (ap (λ (x : PlainCase). x.rules) (c.behind-self.view_is ∙ c.index.ensures)))

pub returns : goal.returns
returns c = λ case at.
    let items = c.self.inside.list.items in
    let rules = numbers_in c.behind-self.inside.rules in
    let read : c.in-Some.derivation ≡ rules = rw c.in-Some.is at c.in_ok-derivation.ensures in
    read ∙ same_rules items c.args.place c.index.result.now case rules (ap (λ (x : PlainCase). x.rules) (c.behind-self.view_is ∙ c.index.ensures))
    (subst (λ (s : PlainCases). slice_get s.list c.args.place ≡ Some case) (sym c.self.view_is) at)
