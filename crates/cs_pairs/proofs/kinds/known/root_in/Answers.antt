-- What the slot has is the root of the kind and the nonterminal that it names, and these are those that are asked for.
use Rattle.std.proofs.Common.{◌≡◌, subst, arith}
use Rattle.cs_pairs.specs.declared.kinds.kind.TreeKind.{TreeKind}
use Rattle.cs_pairs.specs.Kinds.Beside.{IsRootIn}
use Rattle.cs_pairs.specs.Kinds.Known.{IsSlotIn}
use Rattle.cs_pairs.proofs.kinds.known.root_in.Goals as goal

pub returns-then-is_same : goal.returns-then-is_same
returns-then-is_same c = λ v is.
    let known = c.in-Some.known in
    let same_left : known.left ≡ c.args.left = omega (arith, c.if-known-left.true) in
    let same_kind = c.is_same.ensures c.if-is_same.true in
    subst (λ (k : TreeKind). IsRootIn v k c.args.left known.root) same_kind
    (subst (λ n. IsRootIn v known.kind n known.root) same_left (subst (IsSlotIn v) c.in-Some.is is))
