-- The needed definitions are known by their patterns, and within the depth, so what is built is the tree's pattern.
use Rattle.std.proofs.Common.{List, sym, subst}
use Rattle.cs_pattern.specs.Text.Checked.{AreChecked}
use Rattle.cs_pattern.specs.Text.Needed.{AreNeeded, KnowNeeded}
use Rattle.cs_pattern.specs.Operations.Definitions.{Definition, definitions_of}
use Rattle.cs_pattern.specs.Operations.Operations.{ops_of}
use Rattle.cs_pattern.specs.Operations.Trees.{GiveShallow}
use Rattle.cs_pattern_parts.specs.Tree.Pattern.{regex}
use Rattle.cs_pattern.specs.Text.ReadView.{IsPutIn, IsWithinDepth}
use Rattle.cs_pattern.proofs.OnText.TextTrees.{put_in_is, put_in_shallow}
use Rattle.cs_pattern.proofs.text.read.put_in.Goals as goal

pub needed-requires-clause-places : goal.needed-requires-clause-places
needed-requires-clause-places c = rw (c.deref.ensures.value, c.deref-2.ensures.value, c.deref-3.ensures.value) c.definitions.invariant.1

pub known-requires-clause-needed : goal.known-requires-clause-needed
known-requires-clause-needed c =
    let bodies = c.definitions.inside.bodies.items in
    let needed : AreNeeded bodies (ops_of c.args.ops.now) c.in_ok-needed.needed.items = rw c.deref.ensures.value at c.in_ok-needed.ensures in
    rw (c.deref-4.ensures.value, c.deref-5.ensures.value) needed.in_order

pub build-requires : goal.build-requires
build-requires c =
    let ds : List Definition = definitions_of c.definitions.inside.texts.entries in
    let bodies = c.definitions.inside.bodies.items in
    let a : AreChecked ds bodies c.definitions.inside.measures.items c.definitions.inside.order.items = c.definitions.invariant.0 in
    let needed : AreNeeded bodies (ops_of c.args.ops.now) c.in_ok-needed.needed.items = rw c.deref.ensures.value at c.in_ok-needed.ensures in
    let known : KnowNeeded bodies c.in_ok-needed.needed.items c.in_ok-known.known.entries = rw (c.deref-4.ensures.value, c.deref-5.ensures.value) at c.in_ok-known.ensures in
    let within : IsWithinDepth ds c.args.ops.now = subst (λ (es : List Definition). IsWithinDepth es c.args.ops.now) (sym c.definitions.view_is) c.requires in
    let shallow : GiveShallow c.in_ok-known.known.entries (ops_of c.args.ops.now) =
    put_in_shallow ds bodies c.definitions.inside.measures.items c.definitions.inside.order.items a c.args.ops.now c.in_ok-needed.needed.items c.in_ok-known.known.entries within needed (known ds c.definitions.inside.order.items (c.definitions.inside.measures.items, a)) in
    shallow

pub returns : goal.returns
returns c =
    let ds : List Definition = definitions_of c.definitions.inside.texts.entries in
    let bodies = c.definitions.inside.bodies.items in
    let a : AreChecked ds bodies c.definitions.inside.measures.items c.definitions.inside.order.items = c.definitions.invariant.0 in
    let needed : AreNeeded bodies (ops_of c.args.ops.now) c.in_ok-needed.needed.items = rw c.deref.ensures.value at c.in_ok-needed.ensures in
    let known : KnowNeeded bodies c.in_ok-needed.needed.items c.in_ok-known.known.entries = rw (c.deref-4.ensures.value, c.deref-5.ensures.value) at c.in_ok-known.ensures in
    let b = c.in_ok-pattern.ensures in
    let p : IsPutIn ds c.args.ops.now (regex c.in_ok-pattern.pattern) =
    put_in_is ds bodies c.definitions.inside.measures.items c.definitions.inside.order.items a (ops_of c.args.ops.now) (regex c.in_ok-pattern.pattern) c.in_ok-needed.needed.items c.in_ok-known.known.entries b needed
    (known ds c.definitions.inside.order.items (c.definitions.inside.measures.items, a)) in
    subst (λ (es : List Definition). IsPutIn es c.args.ops.now (regex c.in_ok-pattern.pattern)) c.definitions.view_is p
