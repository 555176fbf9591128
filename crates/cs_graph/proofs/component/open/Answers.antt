-- The new node is a group of its own with its successors pending, and it is no longer among the new ones.
use Rattle.std.proofs.Common.{◌≡◌, ◌<◌, ◌++◌, ◌∷◌, ◌∙◌, [], ℕ, List, refl, ap, arith, length, length-append}
use Rattle.std.specs.Prelude.{Some, slice_get}
use Rattle.std.proofs.lemmas.Option.{slice_get_read, slice_get_within}
use Rattle.cs_graph.specs.declared.component.Group.{Group}
use Rattle.cs_graph.specs.declared.component.State.TheVariants.{New}
use Rattle.cs_graph.proofs.Grouping.{same_search, opens, seen_then, not_new, unopened-opened}
use Rattle.cs_graph.proofs.component.open.Goals as goal

pub returns : goal.returns
returns c =
    let g = c.args.graph.now in
    let s = c.args.search.now in
    let node = c.args.node in
    let row = c.index-graph-node.result in
    let group : Group = record { first = c.len.result; pending = c.len-2.result } in
    let stack_ok = s.stack.ok in
    let pending_ok = s.pending.ok in
    let first_is : c.len.result ≡ length s.stack.items = omega (arith, c.len.ensures) in
    let pending_is : c.len-2.result ≡ length s.pending.items = omega (arith, c.len-2.ensures) in
    let new_within = slice_get_within s.states.items node New c.requires.new in
    let size = c.requires.search.size in
    let within : node < length g = omega arith in
    let is : slice_get g node ≡ Some row = slice_get_read g _ node row refl within c.index-graph-node.is in
    let pending : c.extend_from_slice.new.self.items ≡ s.pending.items ++ row.items = c.in_ok-extend_from_slice.ensures.items ∙ ap (λ (xs : List ℕ). s.pending.items ++ xs) c.deref.ensures.value in
    let fewer = unopened-opened s.states.items g node c.len.result row c.requires.new is in
    record {
      search = same_search g _ (s.stack.items ++ node ∷ []) c.push.new.self.items (s.pending.items ++ row.items) c.extend_from_slice.new.self.items (s.groups.items ++ group ∷ []) c.push-2.new.self.items s.closed.items s.closed.items c.in_ok-push.ensures.items pending c.in_ok-push-2.ensures.items refl
          (opens g s.states.items s.stack.items s.pending.items s.groups.items s.closed.items node c.requires.search c.requires.new row is c.requires.led_to group first_is pending_is);
      seen = λ x h. seen_then g s.states.items s.stack.items s.pending.items s.groups.items s.closed.items node c.requires.search c.requires.new row is c.requires.led_to group first_is pending_is x h;
      opened = λ h. not_new g s.states.items s.stack.items s.pending.items s.groups.items s.closed.items node c.requires.search c.requires.new row is c.requires.led_to group first_is pending_is h;
      less = omega (arith, fewer, ap (λ (xs : List ℕ). length xs) pending, ap (λ (xs : List Group). length xs) c.in_ok-push-2.ensures.items, length-append s.pending.items row.items, length-append s.groups.items (group ∷ []));
    }
