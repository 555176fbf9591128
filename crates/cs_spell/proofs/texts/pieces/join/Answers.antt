-- One piece more, with the separator before it unless it is the first.
use Rattle.std.proofs.Common.{◌++◌, List, ℕ, ap, ◌∙◌, sym, arith, take}
use Rattle.std.proofs.lemmas.List.{length-map, take_all}
use Rattle.cs_spell.specs.Texts.Pieces.{values}
use Rattle.cs_spell.proofs.OnTexts.Pieces.{join_first, join_next, value_at}
use Rattle.cs_texts.specs.Rendering.Joined.{joined}
use Rattle.cs_spell.proofs.texts.pieces.join.Goals as goal
use Rattle.cs_spell.proofs.texts.pieces.join.Goals.{then-i-gt0+in_ok-extend_from_slice, else-i-gt0}

pub loop-i-preserved : goal.loop-i-preserved
loop-i-preserved c =
    let sep = c.args.separator.now in
    let ps = c.args.pieces.now in
    let i = c.loop-i.i in
    let less = c.loop-i-test.true in
    let so_far = joined sep (take i (values ps)) in
    c.in_ok-extend_from_slice-2.ensures.items ∙ elim c.if-i-gt0.branch [
      | then-i-gt0+in_ok-extend_from_slice w ↦
          rw (w.text-is, w.in_ok-extend_from_slice.ensures.items, c.loop-i.invariant)
          (ap (λ (t : List ℕ). (so_far ++ sep) ++ t) (sym (value_at ps i _ less)) ∙ sym (join_next sep (values ps) i w.if-i-gt0.true (omega (arith, less, length-map ps (λ b. b.now)))))
      | else-i-gt0 w ↦
          rw (w.text-is, c.loop-i.invariant)
          (ap (λ (t : List ℕ). so_far ++ t) (sym (value_at ps i _ less)) ∙ sym (join_first sep (values ps) i (omega (arith, w.if-i-gt0.false)) (omega (arith, less, length-map ps (λ b. b.now)))))
    ]

pub returns : goal.returns
returns c =
    let ps = c.args.pieces.now in
    c.loop-i.invariant ∙ ap (joined c.args.separator.now) (take_all c.loop-i.i (values ps) (omega (arith, length-map ps (λ b. b.now))))
