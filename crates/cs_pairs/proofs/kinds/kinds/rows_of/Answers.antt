-- Each row that was made holds the costs of its kind: all trees, empty ones, and those by a token at a side.
use Rattle.std.proofs.Common.{sym, subst}
use Rattle.cs_pairs.specs.declared.kinds.kind.TreeKind.TheVariants.{Empty}
use Rattle.cs_pairs.specs.declared.kinds.side.Side.{Side}
use Rattle.cs_pairs.specs.Kinds.Nets.{AreRowsOn}
use Rattle.cs_pairs.specs.Kinds.Tables.{AreCosts}
use Rattle.cs_pairs.proofs.kinds.kinds.rows_of.Goals as goal

pub invariant_of-bases : goal.invariant_of-bases
invariant_of-bases c = subst (AreCosts c.args.costs.now.weights c.args.costs.now.grammar Empty) (sym c.costs.ensures) c.in_ok-empty.ensures

pub returns : goal.returns
returns c =
    let v = c.args.costs.now in
    record {
      weighs = c.weights-weights.ensures.weighs;
      any_costs = c.in_ok-any.ensures;
      empty_costs = c.in_ok-empty.ensures;
      begins_costs = subst (λ (s : Side). AreRowsOn v s c.in_ok-begins.begins.items) c.in_ok-net_of.ensures.0 c.in_ok-begins.ensures;
      ends_costs = subst (λ (s : Side). AreRowsOn v s c.in_ok-ends.ends.items) c.in_ok-net_of-2.ensures.0 c.in_ok-ends.ensures;
    }
