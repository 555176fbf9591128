-- A token has no code, a tree of any yield is written whole, and of any other the root is written.
use Rattle.std.proofs.Common.{sym, subst}
use Rattle.std.proofs.lemmas.Result.{on_ok_weaker}
use Rattle.cs_grammar.specs.Weights.{Weighed}
use Rattle.cs_least.specs.Cost.Chosen.{AppendsChosen}
use Rattle.cs_least.specs.Cost.Trees.{HasLeast}
use Rattle.cs_pairs.proofs.OnKinds.Written.{takes_leaf, takes_whole, small_least, grown_whole}
use Rattle.cs_pairs.proofs.kinds.writing.take_on.Goals as goal

pub returns-in-Token-clause-taken : goal.returns-in-Token-clause-taken
returns-in-Token-clause-taken c = takes_leaf c.args.kinds.now.weights c.args.kinds.now.grammar c.requires.measure c.args.part c.in-Token.field-0 _ _ c.in-Token.is

pub least_into-requires-clause-least : goal.least_into-requires-clause-least
least_into-requires-clause-least c =
    let t = c.requires.small in
    subst (λ (v : Weighed). HasLeast v.weights v.grammar c.args.part.symbol) (sym c.costs.ensures) (small_least c.args.kinds.now.weights c.args.kinds.now.grammar c.args.part.symbol t.0 t.1.0 t.2)

pub returns-in-Any-clause-taken : goal.returns-in-Any-clause-taken
returns-in-Any-clause-taken c =
    on_ok_weaker c.least_into.result
    (λ e. takes_whole c.args.kinds.now.weights c.args.kinds.now.grammar c.requires.measure c.args.part _ _ _ c.in-Any.is (subst (λ (v : Weighed). AppendsChosen v.weights v.grammar c.args.part.symbol c.args.into.now c.least_into.new.into) c.costs.ensures e))
    c.least_into.ensures.ok

pub returns-in-Any-clause-grown : goal.returns-in-Any-clause-grown
returns-in-Any-clause-grown c = grown_whole c.least_into.result c.costs.result.now.weights c.costs.result.now.grammar c.args.part.symbol _ _ c.least_into.ensures.ok c.least_into.ensures.err
