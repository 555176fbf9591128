-- No closing brace behind the digits; no digits, and so no most; or the digits as the most.
use Rattle.std.proofs.Common.{◌≡◌, ◌≤◌, ◌+◌, ℕ, length, ◌∙◌, sym, arith, ap}
use Rattle.cs_pattern_parts.specs.declared.items.item.Repetition.{Repetition}
use Rattle.cs_pattern_parts.specs.Items.Interval.{sized}
use Rattle.cs_bytes.proofs.Fronts.{has_within}
use Rattle.cs_pattern_parts.proofs.OnItems.Intervals.{open_none, open_short, open_long, if_some}
use Rattle.cs_pattern_parts.proofs.items.interval.open_interval.Goals as goal

pub returns-then-not-has_at-clause-value : goal.returns-then-not-has_at-clause-value
returns-then-not-has_at-clause-value c = λ n cut. open_none c.args.text.now _ c.run_len-size.ensures.len n (sym c.has_at.ensures ∙ c.if-not-has_at.true)

pub returns-then-size-eq0-clause-value : goal.returns-then-size-eq0-clause-value
returns-then-size-eq0-clause-value c = λ n cut.
    c.sized.ensures.value ∙ ap (λ r. sized r 1) c.at_least.ensures
    ∙ open_short c.args.text.now _ c.run_len-size.ensures.len n c.args.least cut (sym c.has_at.ensures ∙ c.if-not-has_at.false) c.if-size-eq0.true

pub returns-clause-value : goal.returns-clause-value
returns-clause-value c = λ n cut.
    c.sized-2.ensures.value ∙ ap (λ r. sized r (c.run_len-size.result + 1)) c.between.ensures
    ∙ open_long c.args.text.now _ c.run_len-size.ensures.len n c.args.least c.number.result cut c.number.ensures (sym c.has_at.ensures ∙ c.if-not-has_at.false) c.if-size-eq0.false

pub returns-clause-size : goal.returns-clause-size
returns-clause-size c =
    let w = has_within c.args.text.now _ _ (sym c.has_at.ensures ∙ c.if-not-has_at.false) in
    if_some c.sized-2.result (λ (r : Repetition × ℕ). r.1 ≡ c.run_len-size.result + 1) (λ (r : Repetition × ℕ). r.1 ≤ length c.args.text.now) (λ r e. omega (arith, w)) c.sized-2.ensures.size
