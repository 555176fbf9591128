-- The items so far are read; the end or the second mark ends reading, anything else stops it.
use Rattle.std.proofs.Common.{◌∙◌, ◌++◌, ◌∷◌, [], List, ℕ, ◌<◌, refl, subst, inl, inr}
use Rattle.cs_yacc.specs.Items.Items.{Follows, ReadingEnds}
use Rattle.cs_yacc.specs.Items.Finds.{StopsWith}
use Rattle.cs_yacc.specs.Items.Views.{placed_of}
use Rattle.cs_yacc.proofs.OnItems.Reading.{HasRead-none, HasRead-more, read_to_mark, read_to_end}
use Rattle.cs_yacc.proofs.OnItems.Stopping.{stops_for}
use Rattle.cs_yacc.proofs.items.items.read_or_stopped.Goals as goal

pub loop-marks-init : goal.loop-marks-init
loop-marks-init c = (c.new-text.ensures, [], HasRead-none c.args.bytes.now)

pub loop-marks-preserved : goal.loop-marks-preserved
loop-marks-preserved c =
    let next = subst (λ (t : List ℕ). Follows t c.loop-marks.from (placed_of c.in-Item.placed) c.in-Item.end) c.loop-marks.invariant.0 c.in-Item.ensures.next in (
      c.in-Item.ensures.text ∙ c.loop-marks.invariant.0,
      c.loop-marks.invariant.1 ++ placed_of c.in-Item.placed ∷ [],
      HasRead-more _ _ _ _ _ _ _ _ c.loop-marks.invariant.2 c.loop-marks-test.true next c.marks_behind-marks.ensures refl,
    )

pub returns-in-End : goal.returns-in-End
returns-in-End c =
    inl (c.loop-marks.invariant.1, read_to_end _ _ _ c.loop-marks.invariant.2 (subst (λ (t : List ℕ). (marks : ℕ) → marks < 2 → ReadingEnds t (record { at = c.loop-marks.from; marks = marks })) c.loop-marks.invariant.0 c.in-End.ensures.next c.loop-marks.marks c.loop-marks-test.true))

pub returns-in-Stop : goal.returns-in-Stop
returns-in-Stop c =
    inr (c.in-Stop.field-0, stops_for _ _ _ _ _ c.loop-marks.invariant.2 c.loop-marks-test.true (subst (λ (t : List ℕ). StopsWith t c.loop-marks.from c.in-Stop.field-0) c.loop-marks.invariant.0 c.in-Stop.ensures.next))

pub returns : goal.returns
returns c = inl (c.loop-marks.invariant.1, read_to_mark _ _ _ _ c.loop-marks.invariant.2 c.loop-marks-test.false)
