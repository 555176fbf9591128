-- Neighbours that differ are put behind those before them.
use Rattle.std.proofs.Common.{◌≡◌, ◌<◌, ◌≤◌, ℕ, Bool, true, false, cond, ◌-◌, ◌++◌, [], append-nil, ap, sym, ◌∙◌, arith, length, map}
use Rattle.std.specs.Global.{Vec}
use Rattle.std.specs.List.{filter, range_with_len}
use Rattle.cs_wrong.proofs.OnSlips.Putting.{swap_more, swap_put}
use Rattle.cs_wrong.specs.Slips.Slips.{differ_at, swaps_of}
use Rattle.cs_wrong.specs.declared.slips.slip.Change.TheVariants.{Swap}
use Rattle.cs_wrong.specs.declared.slips.slip.Slip.{Slip}
use Rattle.cs_wrong.specs.declared.slips.slip.Slip.TheVariants.{Of}
use Rattle.cs_wrong.proofs.slips.slips.put_swaps.Goals as goal
use Rattle.cs_wrong.proofs.slips.slips.put_swaps.Goals.{then-differ+in_ok-push, else-differ}

pub loop-place-preserved : goal.loop-place-preserved
loop-place-preserved c = (
  swap_more c.args.side.now.right.now c.args.side.now.rule c.loop-place.place c.args.list.now.items c.loop-place.list.items c.if-differ.list.items c.loop-place.auto.place c.loop-place.invariant.0
      (elim c.if-differ.branch [
        | then-differ+in_ok-push w ↦ swap_put c.args.side.now.right.now c.args.side.now.rule c.loop-place.place c.loop-place.list.items c.if-differ.list.items true (sym c.differ.ensures ∙ w.if-differ.true) (ap (λ (v : Vec Slip). v.items) w.list-is ∙ w.in_ok-push.ensures.items)
        | else-differ w ↦ swap_put c.args.side.now.right.now c.args.side.now.rule c.loop-place.place c.loop-place.list.items c.if-differ.list.items false (sym c.differ.ensures ∙ w.if-differ.false) (ap (λ (v : Vec Slip). v.items) w.list-is ∙ sym (append-nil c.loop-place.list.items))
      ]),
  (let within : c.loop-place.place < length c.args.side.now.right.now = c.loop-place-test.true in omega arith),
)

pub returns : goal.returns
returns c =
    let low : c.loop-place.place - 1 ≤ length c.args.side.now.right.now - 1 = c.loop-place.invariant.1 in
    let high : length c.args.side.now.right.now ≤ c.loop-place.place = c.loop-place-test.false in
    let all : c.loop-place.place - 1 ≡ length c.args.side.now.right.now - 1 = omega arith in
    c.loop-place.invariant.0 ∙ ap (λ (k : ℕ). c.args.list.now.items ++ map (Of c.args.side.now.rule) (map Swap (filter (differ_at c.args.side.now.right.now) (range_with_len 1 k)))) all
    ∙ ap (λ (b : Bool). c.args.list.now.items ++ map (Of c.args.side.now.rule) (cond b (swaps_of c.args.side.now.right.now) [])) (sym c.if-not-chosen.false)
