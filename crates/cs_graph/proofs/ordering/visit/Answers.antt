-- The node begins the path, with all its successors left.
use Rattle.std.proofs.Common.{◌≡◌, ◌++◌, ◌∷◌, ◌∙◌, [], List, true, arith, refl, sym, ap, subst, length}
use Rattle.std.specs.Prelude.{slice_get, Some}
use Rattle.std.proofs.lemmas.Option.{slice_get_read}
use Rattle.std.proofs.Math.ListN.{set}
use Rattle.cs_graph.specs.declared.ordering.Open.{Open}
use Rattle.cs_graph.specs.Walk.{IsWalk}
use Rattle.cs_graph.proofs.Walking.{begins}
use Rattle.cs_graph.proofs.ordering.visit.Goals as goal

pub finish-requires-clause-walk : goal.finish-requires-clause-walk
finish-requires-clause-walk c =
    let g = c.args.graph.now in
    let w = c.args.walk.now in
    let root : Open = record { node = c.args.node; left = c.len-left.result } in
    let is : slice_get g c.args.node ≡ Some c.index-graph-node.result = slice_get_read g _ c.args.node c.index-graph-node.result refl c.requires.node c.index-graph-node.is in
    let ok = c.index-graph-node.result.ok in
    let all : c.len-left.result ≡ length c.index-graph-node.result.items = omega (arith, c.len-left.ensures, ok) in
    let P : List Open → Type 0 = λ path. IsWalk g w.ready.items w.seen.items path w.order.items in
    let Q : List Open → Type 0 = λ path. IsWalk g w.ready.items (set w.seen.items c.args.node true) path w.order.items in
    let list : c.push.new.self.items ≡ root ∷ [] = c.in_ok-push.ensures.items ∙ ap (λ (xs : List Open). xs ++ root ∷ []) c.requires.none in
    subst Q (sym list) (begins g w.ready.items w.seen.items w.order.items root c.index-graph-node.result (subst P c.requires.none c.requires.walk) is all)
