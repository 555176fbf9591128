-- A tree at the rim alone costs as much, whichever kind it has there, and the node costs one more.
use Rattle.std.proofs.Common.{◌-◌, ◌<◌, length, get_or, subst, arith}
use Rattle.cs_grammar.specs.declared.symbol.Symbol.TheVariants.{Token}
use Rattle.cs_least.specs.Cost.Rank.{rank}
use Rattle.cs_pairs.specs.declared.kinds.kind.TreeKind.{TreeKind}
use Rattle.cs_pairs.specs.Kinds.Beside.{IsDear}
use Rattle.cs_pairs.proofs.OnKinds.Dear.{dear_at_first, dear_at_last}
use Rattle.cs_pairs.proofs.kinds.roots.rim_is_dear.Goals as goal

pub returns-in-Ends : goal.returns-in-Ends
returns-in-Ends c = λ h.
    let v = c.args.kinds.now in
    let xs = c.args.symbols.now in
    let some : 0 < length xs = (let e = c.is_empty.ensures in let t = c.if-is_empty.false in grind arith) in
    let dear = c.is_dear.ensures h in
    dear_at_last v.weights v.grammar (rank v.weights.limit c.args.cost) c.args.rows.now.kind xs (Token 0) some dear.0 (subst (λ (k : TreeKind). IsDear v k (get_or xs (length xs - 1) (Token 0)) c.args.cost) c.behind.ensures dear.1)

pub returns-in_default : goal.returns-in_default
returns-in_default c = λ h.
    let v = c.args.kinds.now in
    let xs = c.args.symbols.now in
    let some : 0 < length xs = (let e = c.is_empty.ensures in let t = c.if-is_empty.false in grind arith) in
    let dear = c.is_dear-in_default.ensures h in
    dear_at_first v.weights v.grammar (rank v.weights.limit c.args.cost) c.args.rows.now.kind xs (Token 0) some dear.0 (subst (λ (k : TreeKind). IsDear v k (get_or xs 0 (Token 0)) c.args.cost) c.before-in_default.ensures dear.1)
