-- One item more, up to the second mark, or a stop that reading meets.
use Rattle.std.proofs.Common.{ap, ◌∙◌, subst, List, ℕ}
use Rattle.std.proofs.lemmas.List.{map_push}
use Rattle.cs_yacc.specs.Items.Items.{Follows}
use Rattle.cs_yacc.specs.Items.Finds.{StopsWith}
use Rattle.cs_yacc.specs.Items.Views.{placed_of, placed_all}
use Rattle.cs_yacc.proofs.OnItems.Reading.{HasRead-more, read_to_mark}
use Rattle.cs_yacc.proofs.OnItems.Stopping.{stop_answers}
use Rattle.cs_yacc.proofs.items.items.read_items.Goals as goal

pub loop-marks-preserved : goal.loop-marks-preserved
loop-marks-preserved c =
    let next = subst (λ (t : List ℕ). Follows t c.loop-marks.from (placed_of c.in-Item.placed) c.in-Item.end) c.loop-marks.invariant.0 c.in-Item.ensures.next in (
      c.in-Item.ensures.text ∙ c.loop-marks.invariant.0,
      HasRead-more _ _ _ _ _ _ _ _ c.loop-marks.invariant.1 c.loop-marks-test.true next c.marks_behind-marks.ensures (ap placed_all c.in_ok-push-in-Item.ensures.items ∙ map_push placed_of _ _),
    )

pub returns-in-Stop : goal.returns-in-Stop
returns-in-Stop c =
    stop_answers _ _ _ _ _ c.loop-marks.invariant.1 c.loop-marks-test.true (subst (λ (t : List ℕ). StopsWith t c.loop-marks.from c.in-Stop.error) c.loop-marks.invariant.0 c.in-Stop.ensures.next)

pub returns : goal.returns
returns c = read_to_mark _ _ _ _ c.loop-marks.invariant.1 c.loop-marks-test.false
