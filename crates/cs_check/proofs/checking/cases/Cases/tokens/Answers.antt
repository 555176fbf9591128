-- The derivation that was read is the case's, and so is its yield.
use Rattle.std.proofs.Common.{List, ℕ, subst}
use Rattle.std.specs.Prelude.{IfOk}
use Rattle.cs_grammar.specs.Leftmost.{IsYield}
use Rattle.cs_check.specs.Checking.Cases.{PlainCases}
use Rattle.cs_check.proofs.OnChecking.Cases.{derived_at}
use Rattle.cs_check.proofs.checking.cases.Cases.tokens.Goals as goal

pub yield_of-requires : goal.yield_of-requires
yield_of-requires c =
    derived_at c.self.inside.grammar.now c.self.inside.list.items c.args.self.now c.self.view_is c.args.place c.requires c.self.invariant.0
    c.in_ok-derivation.derivation c.in_ok-derivation.ensures

pub returns : goal.returns
returns c = λ case at.
    subst (λ (s : PlainCases). IfOk c.yield_of.result (λ tokens. IsYield s.grammar case.rules tokens.items)) c.self.view_is
    (subst (λ (r : List ℕ). IfOk c.yield_of.result (λ tokens. IsYield c.self.inside.grammar.now r tokens.items)) (c.in_ok-derivation.ensures case at) c.yield_of.ensures)
