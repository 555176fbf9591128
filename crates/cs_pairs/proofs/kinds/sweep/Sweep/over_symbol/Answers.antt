-- The whole costs the lesser of the two ways, and the rest costs the symbol's tree and the rest behind it.
use Rattle.std.proofs.Common.{◌∷◌, sym, subst}
use Rattle.cs_grammar.specs.Tree.{size, sizes}
use Rattle.cs_least.specs.Cost.Least.{IsCost}
use Rattle.cs_least.proofs.OnCost.Ranks.{cost_capped}
use Rattle.cs_pairs.specs.declared.kinds.kind.TreeKind.{TreeKind}
use Rattle.cs_pairs.specs.Kinds.Kinds.{IsTreeOfKind, AreTreesOfKind, behind}
use Rattle.cs_pairs.specs.Kinds.Ways.{AreHere, AreLater, joint_size}
use Rattle.cs_pairs.proofs.OnKinds.Sweeping.{lesser_way, behind_cost}
use Rattle.cs_pairs.proofs.kinds.sweep.Sweep.over_symbol.Goals as goal

pub lesser-requires-clause-a : goal.lesser-requires-clause-a
lesser-requires-clause-a c =
    cost_capped c.args.kinds.now.weights.limit (AreHere c.args.kinds.now.grammar c.args.self.kind c.args.symbol c.requires.swept.0) (joint_size c.args.kinds.now.weights) _ (c.ways-ways.ensures c.requires.swept.0 c.requires.swept.1).is_here

pub lesser-requires-clause-b : goal.lesser-requires-clause-b
lesser-requires-clause-b c =
    cost_capped c.args.kinds.now.weights.limit (AreLater c.args.kinds.now.grammar c.args.self.kind c.args.symbol c.requires.swept.0) (joint_size c.args.kinds.now.weights) _ (c.ways-ways.ensures c.requires.swept.0 c.requires.swept.1).is_later

pub returns-clause-swept : goal.returns-clause-swept
returns-clause-swept c = λ xs swept.
    let g = c.args.kinds.now.grammar in
    let k = c.args.self.kind in
    let x = c.args.symbol in
    let ways = c.ways-ways.ensures xs swept in
    let other = subst (λ (j : TreeKind). IsCost c.args.kinds.now.weights.limit (IsTreeOfKind g j x) (size c.args.kinds.now.weights) c.told.result) c.behind.ensures c.told.ensures in
    record {
      is_whole = subst (IsCost c.args.kinds.now.weights.limit (AreTreesOfKind g k (x ∷ xs)) (sizes c.args.kinds.now.weights)) (sym c.lesser.ensures.cost) (lesser_way c.args.kinds.now.weights g k x xs _ _ ways.is_here ways.is_later);
      is_rest = subst (IsCost c.args.kinds.now.weights.limit (AreTreesOfKind g (behind k) (x ∷ xs)) (sizes c.args.kinds.now.weights)) (sym c.plus.ensures) (behind_cost c.args.kinds.now.weights g k x xs _ _ other swept.is_rest);
    }
