-- Where the gap goes up to the end of the bytes, reading ends.
use Rattle.std.proofs.Common.{ℕ, ◌<◌, List, subst}
use Rattle.cs_yacc.specs.Items.Items.{ReadingEnds}
use Rattle.cs_yacc.proofs.OnItems.Reading.{end_is}
use Rattle.cs_yacc.proofs.items.items.next_item.Goals as goal

pub returns-then-offset-bytes-clause-next : goal.returns-then-offset-bytes-clause-next
returns-then-offset-bytes-clause-next c =
    subst (λ (t : List ℕ). (marks : ℕ) → marks < 2 → ReadingEnds t (record { at = c.args.from; marks = marks })) c.bytes-bytes.ensures
    (end_is _ _ _ c.skip_gap-offset.ensures.gap c.skip_gap-offset.ensures.within.0 c.skip_gap-offset.ensures.ends c.if-offset-bytes.true)
