-- The tree of the kind has the rest behind it here, and later a tree that may stand before has the whole.
use Rattle.std.proofs.Common.{sym, subst}
use Rattle.cs_grammar.specs.Tree.{size}
use Rattle.cs_least.specs.Cost.Least.{IsCost}
use Rattle.cs_pairs.specs.declared.kinds.kind.TreeKind.{TreeKind}
use Rattle.cs_pairs.specs.Kinds.Kinds.{IsTreeOfKind}
use Rattle.cs_pairs.specs.Kinds.Ways.{AreHere, AreLater, joint_size}
use Rattle.cs_pairs.proofs.OnKinds.Sweeping.{here_cost, later_cost}
use Rattle.cs_pairs.proofs.kinds.sweep.Sweep.ways.Goals as goal

pub returns : goal.returns
returns c = λ xs swept.
    let g = c.args.kinds.now.grammar in
    let k = c.args.self.now.kind in
    let x = c.args.symbol in
    let other = subst (λ (j : TreeKind). IsCost c.args.kinds.now.weights.limit (IsTreeOfKind g j x) (size c.args.kinds.now.weights) c.told-2.result) c.before-2.ensures c.told-2.ensures in
    record {
      is_here = subst (IsCost c.args.kinds.now.weights.limit (AreHere g k x xs) (joint_size c.args.kinds.now.weights)) (sym c.plus-here.ensures) (here_cost c.args.kinds.now.weights g k x xs _ _ c.told.ensures swept.is_rest);
      is_later = subst (IsCost c.args.kinds.now.weights.limit (AreLater g k x xs) (joint_size c.args.kinds.now.weights)) (sym c.plus-later.ensures) (later_cost c.args.kinds.now.weights g k x xs _ _ other swept.is_whole);
    }
