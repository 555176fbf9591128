-- The last node is closed, or looks at a successor: it is ready, is new, or stands on the path and reaches itself.
use Rattle.std.proofs.Common.{◌≡◌, ◌<◌, ◌-◌, ◌++◌, ◌∷◌, [], ℕ, List, arith, refl, sym, ap, ◌∙◌, length, get_or, subst, false, true}
use Rattle.std.specs.Prelude.{slice_get, Some}
use Rattle.std.proofs.lemmas.Option.{slice_get_read}
use Rattle.std.proofs.Math.ListN.{set}
use Rattle.cs_graph.specs.declared.ordering.Open.{Open}
use Rattle.cs_graph.specs.Walk.{IsWalk, work}
use Rattle.cs_graph.proofs.Counting.{marked_still}
use Rattle.cs_graph.proofs.Walking.{unopened-set, work-push, last_within, closes, closed_before, left_within, edge_is, looks_on, reaches_itself, goes_on, marked_read, number_read}
use Rattle.cs_graph.proofs.ordering.step.Goals as goal
use Rattle.cs_graph.proofs.ordering.step.Goals.{After-index, After-index-graph-node, After-index-to, After-index-2, After-index-3}

-- the last node is one of the graph
node_within : (c : After-index) → c.args.last.node < length c.args.walk.now.ready.items
node_within c =
    let lt = last_within c.args.graph.now c.args.walk.now c.args.last c.requires.walk in
    omega (arith, lt, c.requires.walk.partial.size)

-- its successors
row : (c : After-index-graph-node) → slice_get c.args.graph.now c.args.last.node ≡ Some c.index-graph-node.result
row c = slice_get_read _ _ c.args.last.node c.index-graph-node.result refl (last_within c.args.graph.now c.args.walk.now c.args.last c.requires.walk) c.index-graph-node.is

within : (c : After-index-graph-node) → c.args.last.left - 1 < length c.index-graph-node.result.items
within c = left_within c.args.graph.now c.args.walk.now c.args.last c.requires.walk c.index-graph-node.result (row c) c.if-left-eq0.false

-- the one that is looked at
to_is : (c : After-index-to) → c.index-to.result.now ≡ get_or c.index-graph-node.result.items (c.args.last.left - 1) 0
to_is c = number_read c.index-graph-node.result.items (c.args.last.left - 1) c.index-to.result.now (within c.before) c.index-to.ensures

to_within : (c : After-index-to) → c.index-to.result.now < length c.args.graph.now
to_within c =
    c.requires.graph c.args.last.node c.index-to.result.now
    (edge_is c.args.graph.now c.args.walk.now c.args.last c.requires.walk c.index-graph-node.result (row c.before) c.if-left-eq0.false c.index-to.result.now (to_is c))

ready_is : (c : After-index-2) → c.index-to.result.now < length c.args.graph.now → get_or c.args.walk.now.ready.items c.index-to.result.now false ≡ c.index-2.result.now
ready_is c small =
    marked_read c.args.walk.now.ready.items c.index-to.result.now _ (omega (arith, c.requires.walk.partial.size, small)) c.index-2.ensures

seen_is : (c : After-index-3) → c.index-to.result.now < length c.args.graph.now → get_or c.args.walk.now.seen.items c.index-to.result.now false ≡ c.index-3.result.now
seen_is c small =
    marked_read c.args.walk.now.seen.items c.index-to.result.now _ (omega (arith, c.requires.walk.size, small)) c.index-3.ensures

pub returns-in_ok-push-clause-step : goal.returns-in_ok-push-clause-step
returns-in_ok-push-clause-step c = λ _.
    let at = goal.at.returns-in_ok-push-clause-step c in
    let g = c.args.graph.now in
    let w = c.args.walk.now in
    let last = c.args.last in
    let e : get_or w.ready.items last.node false ≡ false = marked_read w.ready.items last.node _ (node_within at.After-index) c.index.ensures ∙ c.if-not-index.true in
    let P : List ℕ → Type 0 = λ xs. IsWalk g (set w.ready.items last.node true) w.seen.items w.path.items xs in
    record {
      walk = subst P (sym c.in_ok-push.ensures.items) (closes g w last c.requires.walk c.if-left-eq0.true e);
      kept = λ i m. m;
      less = omega (arith, work-push g w.seen.items w.path.items last);
    }

pub returns-else-not-index-clause-step : goal.returns-else-not-index-clause-step
returns-else-not-index-clause-step c = λ _.
    let at = goal.at.returns-else-not-index-clause-step c in
    let g = c.args.graph.now in
    let w = c.args.walk.now in
    let last = c.args.last in
    let e : get_or w.ready.items last.node false ≡ true = marked_read w.ready.items last.node _ (node_within at.After-index) c.index.ensures ∙ c.if-not-index.false in
    record {
      walk = closed_before g w last c.requires.walk e;
      kept = λ i m. m;
      less = omega (arith, work-push g w.seen.items w.path.items last);
    }

pub offset_bounds-graph-node : goal.offset_bounds-graph-node
offset_bounds-graph-node c = let lt = last_within c.args.graph.now c.args.walk.now c.args.last c.requires.walk in omega (arith, lt)

pub bounds-graph-node : goal.bounds-graph-node
bounds-graph-node c = last_within c.args.graph.now c.args.walk.now c.args.last c.requires.walk

pub index-to-requires : goal.index-to-requires
index-to-requires c =
    let ok = c.index-graph-node.result.ok in
    omega (arith, within (goal.at.index-to-requires c).After-index-graph-node, ok)

pub index-requires-2 : goal.index-requires-2
index-requires-2 c = omega (arith, c.requires.walk.partial.size, to_within (goal.at.index-requires-2 c).After-index-to)

pub returns-then-index-clause-step : goal.returns-then-index-clause-step
returns-then-index-clause-step c = λ _.
    let at = goal.at.returns-then-index-clause-step c in
    let g = c.args.graph.now in
    let w = c.args.walk.now in
    let last = c.args.last in
    let next : Open = record { node = last.node; left = last.left - 1 } in
    let marked : get_or w.ready.items c.index-to.result.now false ≡ true = ready_is at.After-index-2 (to_within at.After-index-to) ∙ c.if-index.true in
    let P : List Open → Type 0 = λ path. IsWalk g w.ready.items w.seen.items path w.order.items in
    let Q : List Open → Type 0 = λ path. work g w.seen.items path < work g w.seen.items (w.path.items ++ last ∷ []) in
    let some = c.if-left-eq0.false in
    record {
      walk = subst P (sym c.in_ok-push-2.ensures.items) (looks_on g w last c.requires.walk c.index-graph-node.result (row at.After-index-graph-node) some c.index-to.result.now (to_is at.After-index-to) next refl refl marked);
      kept = λ i m. m;
      less = subst Q (sym c.in_ok-push-2.ensures.items) (omega (arith, work-push g w.seen.items w.path.items next, work-push g w.seen.items w.path.items last, some));
    }

pub index-requires-3 : goal.index-requires-3
index-requires-3 c = omega (arith, c.requires.walk.size, to_within (goal.at.index-requires-3 c).After-index-to)

pub returns-then-index-2-clause-cycle : goal.returns-then-index-2-clause-cycle
returns-then-index-2-clause-cycle c = λ _.
    let at = goal.at.returns-then-index-2-clause-cycle c in
    let small = to_within at.After-index-to in
    reaches_itself c.args.graph.now c.args.walk.now c.args.last c.requires.walk c.index-graph-node.result (row at.After-index-graph-node) c.if-left-eq0.false c.index-to.result.now (to_is at.After-index-to)
    (seen_is at.After-index-3 small ∙ c.if-index-2.true) (ready_is at.After-index-2 small ∙ c.if-index.false)

pub offset_bounds-graph-to : goal.offset_bounds-graph-to
offset_bounds-graph-to c = let lt = to_within (goal.at.offset_bounds-graph-to c).After-index-to in omega (arith, lt)

pub bounds-graph-to : goal.bounds-graph-to
bounds-graph-to c = to_within (goal.at.bounds-graph-to c).After-index-to

pub index_mut-requires-2 : goal.index_mut-requires-2
index_mut-requires-2 c = omega (arith, c.requires.walk.size, to_within (goal.at.index_mut-requires-2 c).After-index-to)

pub returns-clause-step : goal.returns-clause-step
returns-clause-step c = λ _.
    let at = goal.at.returns-clause-step c in
    let g = c.args.graph.now in
    let w = c.args.walk.now in
    let last = c.args.last in
    let to = c.index-to.result.now in
    let child : Open = record { node = to; left = c.len-left.result } in
    let small = to_within at.After-index-to in
    let there : slice_get g to ≡ Some c.index-graph-to.result = slice_get_read g _ to c.index-graph-to.result refl small c.index-graph-to.is in
    let unseen : get_or w.seen.items to false ≡ false = seen_is at.After-index-3 small ∙ c.if-index-2.false in
    let ok = c.index-graph-to.result.ok in
    let all : c.len-left.result ≡ length c.index-graph-to.result.items = omega (arith, c.len-left.ensures, ok) in
    let list : c.push-3.new.self.items ≡ (w.path.items ++ last ∷ []) ++ child ∷ [] = c.in_ok-push-4.ensures.items ∙ ap (λ (xs : List Open). xs ++ child ∷ []) c.in_ok-push-3.ensures.items in
    let P : List Open → Type 0 = λ path. IsWalk g w.ready.items (set w.seen.items to true) path w.order.items in
    let Q : List Open → Type 0 = λ path. work g (set w.seen.items to true) path < work g w.seen.items (w.path.items ++ last ∷ []) in
    let fewer = unopened-set w.seen.items g to c.index-graph-to.result unseen (omega (arith, c.requires.walk.size, small)) there in
    record {
      walk = subst P (sym list) (goes_on g w last c.requires.walk c.index-graph-node.result (row at.After-index-graph-node) c.if-left-eq0.false to (to_is at.After-index-to) child c.index-graph-to.result refl there all);
      kept = λ i m. marked_still w.seen.items to i m;
      less = subst Q (sym list) (omega (arith, work-push g (set w.seen.items to true) (w.path.items ++ last ∷ []) child, fewer, all));
    }
