-- The place that was found is that of the chosen list, so the parts that are pending are those of its trees.
use Rattle.std.proofs.Common.{◌++◌, ℕ, List, reverse, sym, ap, subst, ◌∙◌, arith, append-nil}
use Rattle.std.specs.Prelude.{All}
use Rattle.std.proofs.lemmas.Result.{on_ok_weaker}
use Rattle.cs_pairs.specs.declared.kinds.writing.Part.{Part}
use Rattle.cs_pairs.specs.declared.kinds.kind.TreeKind.{TreeKind}
use Rattle.cs_pairs.specs.Kinds.Clauses.{IsPlaceIn}
use Rattle.cs_pairs.specs.Kinds.Parts.{AreChosenParts, IsPartOf}
use Rattle.cs_pairs.proofs.OnKinds.Placing.{parts_fit, inner_fit, inner_trees}
use Rattle.cs_pairs.proofs.OnKinds.ChosenKinds.{list_least}
use Rattle.cs_pairs.proofs.OnKinds.KindsSettled.{list_exists}
use Rattle.cs_pairs.specs.Kinds.Parts.{parts_from, inner}
use Rattle.cs_pairs.proofs.kinds.writing.kind_onto.Goals as goal

pub write-requires : goal.write-requires
write-requires c =
    let g = c.args.kinds.now.grammar in
    let is = c.in_ok-put_first.ensures ∙ ap (λ (l : List Part). inner (parts_from c.args.kind c.placed_in-placed.result.place 0 c.args.symbols.now) ++ reverse l) c.clear.ensures.items ∙ append-nil _ in
    let f = c.requires.small in
    let placed = subst (λ (k : TreeKind). IsPlaceIn c.args.kinds.now k c.args.symbols.now c.placed_in-placed.result.place) c.rows_beside.ensures.kind c.placed_in-placed.ensures.is_place in
    let h = list_exists c.args.kinds.now.weights g c.args.kind c.args.symbols.now f.0 f.1 in
    let small = list_least c.args.kinds.now.weights g h.0 f.0 c.args.kind c.args.symbols.now f.1 h.1 in
    let m = inner_trees c.args.kinds.now.weights g h.0 _ (placed h.0 h.1 (omega (arith, small, f.2))) in (
      subst (All (IsPartOf g)) (sym is) (inner_fit c.args.kinds.now.weights g _ (parts_fit c.args.kinds.now.weights g c.args.kind c.placed_in-placed.result.place 0 c.args.symbols.now c.requires.kind c.requires.symbols)),
      (m.trees, subst (λ (l : List Part). AreChosenParts c.args.kinds.now.weights g l m.trees) (sym is) m.chosen, omega (arith, small, f.2, m.small)),
    )

pub returns-clause-ok : goal.returns-clause-ok
returns-clause-ok c =
    let g = c.args.kinds.now.grammar in
    let is = c.in_ok-put_first.ensures ∙ ap (λ (l : List Part). inner (parts_from c.args.kind c.placed_in-placed.result.place 0 c.args.symbols.now) ++ reverse l) c.clear.ensures.items ∙ append-nil _ in
    let f = c.requires.small in
    let placed = subst (λ (k : TreeKind). IsPlaceIn c.args.kinds.now k c.args.symbols.now c.placed_in-placed.result.place) c.rows_beside.ensures.kind c.placed_in-placed.ensures.is_place in
    let h = list_exists c.args.kinds.now.weights g c.args.kind c.args.symbols.now f.0 f.1 in
    let small = list_least c.args.kinds.now.weights g h.0 f.0 c.args.kind c.args.symbols.now f.1 h.1 in
    let m = inner_trees c.args.kinds.now.weights g h.0 _ (placed h.0 h.1 (omega (arith, small, f.2))) in
    let parts = subst (λ (l : List Part). AreChosenParts c.args.kinds.now.weights g l m.trees) (sym is) m.chosen in
    on_ok_weaker c.write.result
    (λ e. record { trees = h.0; chosen = h.1; text = e m.trees parts (omega (arith, small, f.2, m.small)) ∙ ap (λ (l : List ℕ). c.args.into.now ++ l) m.text })
    c.write.ensures.written
