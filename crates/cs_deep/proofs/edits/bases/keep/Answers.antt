-- A feasible goal offers the tokens of its derivation, and any other leaves the bases as they are.
use Rattle.cs_deep.proofs.OnEdits.Keeping.{keeps_feasible, keeps_infeasible, keeps_large}
use Rattle.std.proofs.Common.{List, ℕ, subst, sym}
use Rattle.cs_grammar.specs.Leftmost.{IsYield}
use Rattle.cs_deep.proofs.edits.bases.keep.Goals as goal

pub returns-in_ok-offer-in-Feasible : goal.returns-in_ok-offer-in-Feasible
returns-in_ok-offer-in-Feasible c =
    let e = c.in_ok-offer-in-Feasible.ensures in
    let derivation = c.in-Feasible.derivation in
    let tokens = c.deref.result.now in
    let yield = subst (λ (l : List ℕ). IsYield c.args.grammar.now derivation l) (sym c.deref.ensures.value) c.in_ok-tokens-in-Feasible.ensures in
    keeps_feasible c.args.grammar.now c.args.before c.args.positive.now _ derivation tokens c.in_ok-offer-in-Feasible.field-0 c.args.bases.now c.offer.new.self c.in-Feasible.is yield e.taken e.bases

pub returns-in-Infeasible : goal.returns-in-Infeasible
returns-in-Infeasible c = keeps_infeasible c.args.grammar.now c.args.before c.args.positive.now c.args.bases.now c.in-Infeasible.is

pub returns-in-Large : goal.returns-in-Large
returns-in-Large c = keeps_large c.args.grammar.now c.args.before c.args.positive.now c.args.bases.now c.in-Large.is
