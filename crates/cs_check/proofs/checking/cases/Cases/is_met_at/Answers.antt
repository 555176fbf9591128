-- What is read of the case is a derivation of the start symbol.
use Rattle.std.proofs.Common.{length, ap, arith}
use Rattle.cs_check.specs.Checking.Cases.{PlainCases}
use Rattle.cs_check.proofs.OnChecking.Cases.{derived_at}
use Rattle.cs_check.proofs.checking.cases.Cases.is_met_at.Goals as goal

pub overflow_add-place : goal.overflow_add-place
overflow_add-place c =
    let long = ap (λ (s : PlainCases). length s.list) c.self.view_is in
    omega (arith, c.self.inside.list.ok.0)

pub meets-requires : goal.meets-requires
meets-requires c =
    derived_at c.self.inside.grammar.now c.self.inside.list.items c.args.self.now c.self.view_is c.args.place c.requires c.self.invariant.0
    c.in_ok-derivation.derivation c.in_ok-derivation.ensures
