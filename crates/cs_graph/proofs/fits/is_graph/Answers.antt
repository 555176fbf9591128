-- The successors of each row are all nodes, or one of them is none.
use Rattle.std.proofs.Common.{◌≡◌, ◌<◌, ℕ, List, refl, sym, ◌∙◌, subst, length, inl, inr, arith}
use Rattle.std.specs.Prelude.{Contains, All, slice_get, Some}
use Rattle.std.proofs.lemmas.Bool.{false≢true}
use Rattle.std.proofs.lemmas.Option.{slice_get_read, slice_get_within}
use Rattle.std.proofs.lemmas.List.Elements.{All-contains}
use Rattle.cs_graph.specs.Graph.{Edge}
use Rattle.cs_graph.proofs.Edges.{successors_within, edge_to}
use Rattle.cs_graph.proofs.Pushing.{below_next}
use Rattle.cs_graph.proofs.fits.is_graph.Goals as goal

pub returns-then-not-are_below : goal.returns-then-not-are_below
returns-then-not-are_below c =
    let is : slice_get c.args.graph.now c.loop-successors.successors-index ≡ Some c.successors-item.result = slice_get_read c.args.graph.now _ c.loop-successors.successors-index c.successors-item.result refl (omega arith) c.successors-item.is in
    (λ e. absurd (false≢true e), λ g. sym c.if-not-are_below.true ∙ c.are_below.ensures.1 (subst (All (λ n. n < length c.args.graph.now)) (sym c.deref.ensures.value) (successors_within c.args.graph.now g c.loop-successors.successors-index c.successors-item.result is)))

pub loop-successors-preserved : goal.loop-successors-preserved
loop-successors-preserved c = λ from to lt e. elim (below_next from c.loop-successors.successors-index lt) [
  | inl before ↦ c.loop-successors.invariant from to before e
  | inr here ↦
      let is : slice_get c.args.graph.now c.loop-successors.successors-index ≡ Some c.successors-item.result = slice_get_read c.args.graph.now _ c.loop-successors.successors-index c.successors-item.result refl (omega arith) c.successors-item.is in
      let has : Contains c.deref.result.now to = subst (λ (xs : List ℕ). Contains xs to) (sym c.deref.ensures.value) (edge_to c.args.graph.now c.loop-successors.successors-index c.successors-item.result to is (subst (λ n. Edge c.args.graph.now n to) here e)) in
      All-contains (λ n. n < length c.args.graph.now) c.deref.result.now to (c.are_below.ensures.0 c.if-not-are_below.false) has
]

pub returns : goal.returns
returns c = (λ t from to e. c.loop-successors.invariant from to (let lt = slice_get_within c.args.graph.now from e.successors e.is in omega arith) e, λ g. refl)
