-- One number more, which is listed exactly where it has the property.
use Rattle.std.proofs.Common.{◌≡◌, ◌+◌, ℕ, true, false, sym, ap, ◌∙◌, subst}
use Rattle.std.specs.Global.{Vec}
use Rattle.cs_verdicts.specs.Closed.Closed.{AreThose, numbers}
use Rattle.cs_verdicts.specs.Closed.Collecting.{Has}
use Rattle.cs_verdicts.proofs.OnClosed.Collected.{next_not, next_so, numbers_more}
use Rattle.cs_verdicts.proofs.closed.collecting.numbers_with.Goals as goal
use Rattle.cs_verdicts.proofs.closed.collecting.numbers_with.Goals.{then-has+in_ok-push, else-has}

pub loop-place-preserved : goal.loop-place-preserved
loop-place-preserved c =
    let IsSo = Has c.args.tables.now.grammar c.args.property in
    let n = c.loop-place.place in
    elim c.if-has.branch [
      | then-has+in_ok-push w ↦
          next_so IsSo (numbers n) c.loop-place.list.items (n + 1) (numbers (n + 1)) c.if-has.list.items (numbers_more n)
          (ap (λ (v : Vec ℕ). v.items) w.list-is ∙ w.in_ok-push.ensures.items) c.loop-place.invariant (c.has.ensures.0 w.if-has.true)
      | else-has w ↦
          subst (λ (v : Vec ℕ). AreThose IsSo (numbers (n + 1)) v.items) (sym w.list-is)
          (next_not IsSo (numbers n) c.loop-place.list.items (n + 1) (numbers (n + 1)) (numbers_more n) c.loop-place.invariant (λ so. let e : true ≡ false = sym (c.has.ensures.1 so) ∙ w.if-has.false in cc))
    ]
