-- Each byte may follow or the words aren't all names, and at the end they are where no byte is due.
use Rattle.std.proofs.Common.{get_or, refl, sym, ◌∙◌}
use Rattle.std.proofs.lemmas.Bool.{false≢true}
use Rattle.cs_lines.proofs.OnLines.Visible.{walk_step, walk_stop, walk_end, first_and_rest, none_where_short}
use Rattle.cs_lines.proofs.lines.word.are_names.Goals as goal

pub returns-then-not-may_follow : goal.returns-then-not-may_follow
returns-then-not-may_follow c =
    let left = c.loop-left.left.now in
    let whole = first_and_rest left 0 c.in-len1-up.len_at_least in (
      λ t. absurd (false≢true t),
      λ h. absurd (walk_stop c.args.text.now left _ c.loop-left.is_due (get_or left 0 0) whole (λ may. false≢true (sym c.if-not-may_follow.true ∙ c.may_follow.ensures.1 may)) c.loop-left.invariant h),
    )

pub loop-left-preserved : goal.loop-left-preserved
loop-left-preserved c =
    let left = c.loop-left.left.now in
    let whole = first_and_rest left 0 c.in-len1-up.len_at_least in
    walk_step c.args.text.now left _ c.loop-left.is_due _ (get_or left 0 0) whole refl (c.may_follow.ensures.0 c.if-not-may_follow.false) c.loop-left.invariant

pub returns : goal.returns
returns c =
    let left = c.loop-left.left.now in
    walk_end c.args.text.now left c.loop-left.is_due _ (none_where_short left c.in_default.len_below) refl c.loop-left.invariant
