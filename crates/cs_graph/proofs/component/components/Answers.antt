-- The search starts with nothing seen; when all nodes are seen and no group is open, it has the components.
use Rattle.std.proofs.Common.{◌≡◌, [], List, sym, ap, ◌∙◌, subst, arith, map, length, replicate}
use Rattle.std.proofs.lemmas.List.{length-replicate}
use Rattle.std.proofs.lemmas.Result.{IfOk-weaker}
use Rattle.cs_graph.specs.declared.component.Group.{Group}
use Rattle.cs_graph.specs.declared.component.State.{State}
use Rattle.cs_graph.specs.declared.component.State.TheVariants.{New}
use Rattle.cs_graph.specs.Graph.{AreComponents}
use Rattle.cs_graph.specs.Groups.{number, IsSearch}
use Rattle.cs_graph.proofs.Grouping.{starts, same_search}
use Rattle.cs_graph.proofs.Closing.{ends}
use Rattle.cs_graph.proofs.component.components.Goals as goal

pub loop-node-init : goal.loop-node-init
loop-node-init c =
    let g = c.args.graph.now in
    let states = c.in_ok-vec.field-0.items in
    let n = length g in
    let is : states ≡ replicate n New = c.in_ok-vec.ensures.items_if_clones_equal (λ y e. e) in
    record {
      search = same_search g states [] c.new.result.items [] c.new-2.result.items [] c.new-3.result.items [] c.new-4.result.items c.new.ensures.items c.new-2.ensures.items c.new-3.ensures.items c.new-4.ensures.items
          (subst (λ (xs : List State). IsSearch g xs [] [] [] []) (sym is) (starts g n (length-replicate n New)));
      none = c.new-3.ensures.items;
      seen = λ i lt. absurd (omega arith);
    }

pub returns : goal.returns
returns c =
    let g = c.args.graph.now in
    let s = c.loop-node.search in
    let states = s.states.items in
    let P : List Group → Type 0 = λ groups. IsSearch g states s.stack.items s.pending.items groups s.closed.items in
    let e = ends g states s.stack.items s.pending.items s.closed.items (subst P c.loop-node.invariant.none c.loop-node.invariant.search) (λ i lt. c.loop-node.invariant.seen i (omega arith)) in
    IfOk-weaker c.numbers.result (λ v. v.items ≡ map number c.deref.result.now) (λ v. AreComponents g v.items)
    (λ v h. subst (AreComponents g) (sym (h ∙ ap (map number) c.deref.ensures.value)) e)
    c.numbers.ensures
