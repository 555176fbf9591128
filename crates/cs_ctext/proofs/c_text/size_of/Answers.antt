-- A mark among those known isn't closed; another is closed where the rest behind it is.
use Rattle.std.proofs.Common.{false, sym, ap, ◌∙◌, subst}
use Rattle.cs_bytes.proofs.Fronts.{has_at-got}
use Rattle.cs_ctext.specs.Scans.{quoted_rest}
use Rattle.cs_ctext.specs.Unclosed.{StaysOpen}
use Rattle.cs_ctext.proofs.OpenMarks.{closed_at, unclosed_at, none_closes}
use Rattle.cs_ctext.proofs.c_text.size_of.Goals as goal

pub returns-then-at-known-clause-unclosed : goal.returns-then-at-known-clause-unclosed
returns-then-at-known-clause-unclosed c =
    c.requires.known c.args.at c.if-known-at.true c.if-at-known.true (has_at-got c.args.bytes.now c.args.at c.args.mark c.requires.stands)

pub returns-in-Closed-clause-closed : goal.returns-in-Closed-clause-closed
returns-in-Closed-clause-closed c =
    sym (closed_at c.args.bytes.now c.args.at c.args.mark c.in-Closed.size c.requires.stands c.requires.quote (sym (ap (quoted_rest c.args.mark false) c.from_offset.ensures) ∙ c.in-Closed.ensures.0))

pub returns-in-Unclosed-clause-unclosed : goal.returns-in-Unclosed-clause-unclosed
returns-in-Unclosed-clause-unclosed c =
    unclosed_at c.args.bytes.now c.args.at c.args.mark (has_at-got c.args.bytes.now c.args.at c.args.mark c.requires.stands) (sym (ap (quoted_rest c.args.mark false) c.from_offset.ensures) ∙ c.in-Unclosed.ensures.unclosed)

pub returns-in-Unclosed-clause-others : goal.returns-in-Unclosed-clause-others
returns-in-Unclosed-clause-others c =
    none_closes c.args.bytes.now c.args.at c.args.mark c.in-Unclosed.end c.requires.stands (subst (λ t. StaysOpen c.args.mark t c.in-Unclosed.end) c.from_offset.ensures c.in-Unclosed.ensures)
