-- One number more is in the set where it was in it or is in the other.
use Rattle.std.proofs.Common.{◌<◌, ◌+◌, Bool, List, length, sym, subst, arith}
use Rattle.cs_closed.proofs.OnClosed.Members.{AreJoinedTo, joined_none, joined_all, joined_true, joined_false}
use Rattle.cs_closed.proofs.closed.keeping.add.Goals as goal
use Rattle.cs_closed.proofs.closed.keeping.add.Goals.{then-other-place, else-other-place}

pub loop-place-init : goal.loop-place-init
loop-place-init c = joined_none c.args.set.now c.args.other.now

pub loop-place-preserved : goal.loop-place-preserved
loop-place-preserved c =
    elim c.if-other-place.branch [
      | then-other-place w ↦
          (let low : c.loop-place.place < length c.loop-place.set = omega arith in
          subst (λ (l : List Bool). AreJoinedTo c.args.set.now c.args.other.now (c.loop-place.place + 1) l) (sym w.set-is)
          (joined_true c.args.set.now c.args.other.now c.loop-place.set c.loop-place.place c.loop-place.invariant low w.if-other-place.true))
      | else-other-place w ↦
          subst (λ (l : List Bool). AreJoinedTo c.args.set.now c.args.other.now (c.loop-place.place + 1) l) (sym w.set-is)
          (joined_false c.args.set.now c.args.other.now c.loop-place.set c.loop-place.place c.loop-place.invariant w.if-other-place.false)
    ]

pub returns : goal.returns
returns c = joined_all c.args.set.now c.args.other.now _ c.loop-place.place c.loop-place-test.false c.loop-place.invariant
