-- The measure is that of the text's tree, so it tells whether there is a pattern or a limit is passed.
use Rattle.std.proofs.Common.{◌≡◌, ℕ, List, sym, subst}
use Rattle.std.specs.Prelude.{Some, None}
use Rattle.cs_pattern_parts.specs.Items.Views.{placed_all}
use Rattle.cs_pattern.specs.Text.Answers.{IsNamed, IsPatternOf, IsFault}
use Rattle.cs_pattern.specs.Text.Checked.{AreChecked}
use Rattle.cs_pattern.specs.Text.ReadView.{AreNamedOfSome, IsWithinDepth}
use Rattle.cs_pattern.specs.Operations.Definitions.{Definition, definitions_of}
use Rattle.cs_pattern.specs.Operations.Grammar.{Tree}
use Rattle.cs_pattern.specs.Text.Limits.{passed_limit}
use Rattle.cs_pattern.specs.Operations.Operations.{ops_of, tree_ops, number_of}
use Rattle.cs_pattern_parts.specs.Tree.Pattern.{regex}
use Rattle.cs_pattern.specs.Text.Substitution.{PutIn}
use Rattle.cs_pattern.specs.Operations.Depth.{pattern_of}
use Rattle.cs_pattern.proofs.OnText.TextTrees.{accepts, refuses, is_within}
use Rattle.cs_pattern.proofs.text.read.pattern_of_items.Goals as goal

pub put_in-requires : goal.put_in-requires
put_in-requires c =
    let ds : List Definition = definitions_of c.definitions.inside.texts.entries in
    let a : AreChecked ds c.definitions.inside.bodies.items c.definitions.inside.measures.items c.definitions.inside.order.items = c.definitions.invariant.0 in
    let within : passed_limit c.in_ok-measure.measure.depth c.in_ok-measure.measure.leaves ≡ None = sym c.in-None.ensures in
    let named : AreNamedOfSome ds c.args.items.now = subst (λ (es : List Definition). AreNamedOfSome es c.args.items.now) (sym c.definitions.view_is) c.requires in
    let p : IsWithinDepth ds c.in_ok-ops.ops.items =
    is_within ds c.definitions.inside.bodies.items c.definitions.inside.measures.items c.definitions.inside.order.items a
    (placed_all c.args.items.now) c.in_ok-measure.measure c.in_ok-ops.ops.items (rw (c.deref.ensures.value, c.deref-2.ensures.value) at c.in_ok-measure.ensures) c.in_ok-ops.ensures within named.0 named.1 in
    let whole : IsWithinDepth c.args.definitions.now c.in_ok-ops.ops.items = subst (λ (es : List Definition). IsWithinDepth es c.in_ok-ops.ops.items) c.definitions.view_is p in
    rw c.deref-in-None.ensures.value whole

pub returns-in-Some-clause-refused : goal.returns-in-Some-clause-refused
returns-in-Some-clause-refused c =
    let ds : List Definition = definitions_of c.definitions.inside.texts.entries in
    let a : AreChecked ds c.definitions.inside.bodies.items c.definitions.inside.measures.items c.definitions.inside.order.items = c.definitions.invariant.0 in
    let over : passed_limit c.in_ok-measure.measure.depth c.in_ok-measure.measure.leaves ≡ Some c.in-Some.fault = sym c.in-Some.ensures in
    let p = refuses ds c.definitions.inside.bodies.items c.definitions.inside.measures.items c.definitions.inside.order.items a
    (placed_all c.args.items.now) c.in_ok-measure.measure (ops_of c.in_ok-ops.ops.items) c.in-Some.fault (rw (c.deref.ensures.value, c.deref-2.ensures.value) at c.in_ok-measure.ensures) c.in_ok-ops.ensures over in
    subst (λ (es : List Definition). (text : List ℕ) → IsNamed es text (placed_all c.args.items.now) → IsFault text es c.in-Some.fault) c.definitions.view_is p

pub returns-clause-read : goal.returns-clause-read
returns-clause-read c =
    let ds : List Definition = definitions_of c.definitions.inside.texts.entries in
    let a : AreChecked ds c.definitions.inside.bodies.items c.definitions.inside.measures.items c.definitions.inside.order.items = c.definitions.invariant.0 in
    let within : passed_limit c.in_ok-measure.measure.depth c.in_ok-measure.measure.leaves ≡ None = sym c.in-None.ensures in
    let built = subst (λ (es : List Definition). (tree spelled : Tree) → PutIn es tree spelled → ops_of c.in_ok-ops.ops.items ≡ tree_ops (number_of es) spelled → regex c.in_ok-pattern-in-None.pattern ≡ pattern_of tree) (sym c.definitions.view_is) (rw c.deref-in-None.ensures.value at c.in_ok-pattern-in-None.ensures) in
    let p = accepts ds c.definitions.inside.bodies.items c.definitions.inside.measures.items c.definitions.inside.order.items a
    (placed_all c.args.items.now) c.in_ok-measure.measure (ops_of c.in_ok-ops.ops.items) (regex c.in_ok-pattern-in-None.pattern) (rw (c.deref.ensures.value, c.deref-2.ensures.value) at c.in_ok-measure.ensures) c.in_ok-ops.ensures within built in
    subst (λ (es : List Definition). (text : List ℕ) → IsNamed es text (placed_all c.args.items.now) → IsPatternOf es text (regex c.in_ok-pattern-in-None.pattern)) c.definitions.view_is p
