-- The row of each definition is what its items use.
use Rattle.std.proofs.Common.{◌≡◌, ◌∷◌, [], ◌∙◌, List, refl, ap, arith, length-append}
use Rattle.std.specs.Prelude.{Some, slice_get}
use Rattle.std.specs.List.{filter_map}
use Rattle.std.proofs.lemmas.Option.{slice_get_read, slice_get_within}
use Rattle.cs_pattern_parts.specs.declared.items.item.Placed as held
use Rattle.cs_pattern_parts.specs.Items.Items.{items_of}
use Rattle.cs_pattern_parts.specs.Items.Views.{placed_all}
use Rattle.cs_pattern.specs.Operations.Definitions.{definitions_of}
use Rattle.cs_pattern.specs.Text.Uses.{used}
use Rattle.cs_pattern.proofs.OnText.Linked.{use_graph}
use Rattle.cs_pattern.proofs.OnText.Listing.{more_rows}
use Rattle.cs_pattern.proofs.text.uses.graph_of.Goals as goal

pub loop-items-preserved : goal.loop-items-preserved
loop-items-preserved c =
    let ds = definitions_of c.args.names.now.entries in
    let k = c.loop-items.items-index in
    let size = c.loop-items.invariant.count in
    let is : slice_get c.args.all.now k ≡ Some c.items-item.result = slice_get_read c.args.all.now _ k c.items-item.result refl (omega arith) c.items-item.is in
    rw c.in_ok-push.ensures.items
    record {
      count = omega (arith, length-append c.loop-items.graph.items (c.in_ok-uses_of.field-0 ∷ []), size);
      rows = more_rows ds c.args.all.now c.loop-items.graph.items k c.items-item.result c.in_ok-uses_of.field-0 size is
          (c.in_ok-uses_of.ensures ∙ ap (λ (xs : List held.Placed). filter_map (used ds) (items_of (placed_all xs))) c.deref.ensures.value) c.loop-items.invariant.rows;
    }

pub returns : goal.returns
returns c =
    let size = c.loop-items.invariant.count in
    use_graph (definitions_of c.args.names.now.entries) c.args.all.now c.loop-items.graph.items c.requires (omega arith)
    (λ i v e. c.loop-items.invariant.rows i v (let lt = slice_get_within c.args.all.now i v e in omega arith) e)
