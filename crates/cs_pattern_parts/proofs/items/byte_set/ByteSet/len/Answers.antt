-- One more for each byte that is a member, and none for the others.
use Rattle.std.proofs.Common.{arith, ◌≡◌, ◌+◌, ◌∙◌, sym, ap, refl, length}
use Rattle.cs_pattern_parts.specs.Items.Bits.{has_bit}
use Rattle.cs_pattern_parts.specs.Items.Members.{has, picked}
use Rattle.cs_pattern_parts.proofs.OnItems.Picked.{picked_by_itself, length-picked, length-picked_in, length-picked_out}
use Rattle.cs_pattern_parts.proofs.items.byte_set.ByteSet.len.Goals as goal
use Rattle.cs_pattern_parts.proofs.items.byte_set.ByteSet.len.Goals.{then-contains, else-contains}

pub loop-index-init : goal.loop-index-init
unfolding picked
loop-index-init c = refl

pub overflow_add-count : goal.overflow_add-count
overflow_add-count c = omega (arith, length-picked (has c.args.self.now) c.loop-index.index)

pub loop-index-preserved : goal.loop-index-preserved
loop-index-preserved c =
    elim c.if-contains.branch [
      | then-contains w ↦ w.count-is ∙ ap (λ n. n + 1) c.loop-index.invariant ∙ sym (length-picked_in (has c.args.self.now) c.loop-index.index (sym c.contains.ensures ∙ w.if-contains.true))
      | else-contains w ↦ w.count-is ∙ c.loop-index.invariant ∙ sym (length-picked_out (has c.args.self.now) c.loop-index.index (sym c.contains.ensures ∙ w.if-contains.false))
    ]

pub returns-clause-count : goal.returns-clause-count
returns-clause-count c =
    let end : c.loop-index.index ≡ 256 = omega arith in
    c.loop-index.invariant ∙ ap (λ n. length (picked (has c.args.self.now) n)) end ∙ sym (ap length (picked_by_itself (has_bit c.self.inside.words) 256 _ c.self.view_is))
