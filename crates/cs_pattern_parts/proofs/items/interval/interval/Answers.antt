-- No digits, a closing brace behind them, no comma behind them, or what stands behind the comma.
use Rattle.std.proofs.Common.{◌≡◌, ◌≤◌, ◌+◌, ℕ, length, ◌∙◌, sym, arith, ap}
use Rattle.std.proofs.lemmas.List.{length-drop}
use Rattle.cs_pattern_parts.specs.declared.items.item.Repetition.{Repetition}
use Rattle.cs_pattern_parts.specs.Items.Interval.{sized}
use Rattle.cs_bytes.proofs.Fronts.{has_within}
use Rattle.cs_pattern_parts.proofs.OnItems.Intervals.{interval_none, interval_closed, interval_no_comma, interval_open, if_some}
use Rattle.cs_pattern_parts.proofs.items.interval.interval.Goals as goal

pub returns-then-size-eq0-clause-value : goal.returns-then-size-eq0-clause-value
returns-then-size-eq0-clause-value c = interval_none c.args.text.now _ c.run_len-size.ensures.len c.if-size-eq0.true

pub returns-then-has_at-clause-value : goal.returns-then-has_at-clause-value
returns-then-has_at-clause-value c =
    c.sized.ensures.value ∙ ap (λ r. sized r (c.run_len-size.result + 1)) c.exactly.ensures
    ∙ interval_closed c.args.text.now _ c.run_len-size.ensures.len c.number-least.result c.number-least.ensures c.if-size-eq0.false (sym c.has_at.ensures ∙ c.if-has_at.true)

pub returns-then-has_at-clause-size : goal.returns-then-has_at-clause-size
returns-then-has_at-clause-size c =
    let w = has_within c.args.text.now _ _ (sym c.has_at.ensures ∙ c.if-has_at.true) in
    if_some c.sized.result (λ (r : Repetition × ℕ). r.1 ≡ c.run_len-size.result + 1) (λ (r : Repetition × ℕ). r.1 ≤ length c.args.text.now) (λ r e. omega (arith, w)) c.sized.ensures.size

pub returns-then-not-has_at-clause-value : goal.returns-then-not-has_at-clause-value
returns-then-not-has_at-clause-value c =
    interval_no_comma c.args.text.now _ c.run_len-size.ensures.len c.if-size-eq0.false (sym c.has_at.ensures ∙ c.if-has_at.false) (sym c.has_at-2.ensures ∙ c.if-not-has_at.true)

pub from_offset-requires : goal.from_offset-requires
from_offset-requires c = let w = has_within c.args.text.now _ _ (sym c.has_at-2.ensures ∙ c.if-not-has_at.false) in omega (arith, w)

pub returns-clause-value : goal.returns-clause-value
returns-clause-value c =
    c.longer.ensures.value
    ∙ interval_open c.args.text.now _ c.run_len-size.ensures.len c.open_interval-found.result c.from_offset.result.now c.from_offset.ensures (c.open_interval-found.ensures.value _ c.number-least.ensures) c.if-size-eq0.false (sym c.has_at.ensures ∙ c.if-has_at.false) (sym c.has_at-2.ensures ∙ c.if-not-has_at.false)

pub returns-clause-size : goal.returns-clause-size
returns-clause-size c =
    let w = has_within c.args.text.now _ _ (sym c.has_at-2.ensures ∙ c.if-not-has_at.false) in
    c.longer.ensures.size (length c.args.text.now)
    (if_some c.open_interval-found.result (λ (r : Repetition × ℕ). r.1 ≤ length c.from_offset.result.now) (λ (r : Repetition × ℕ). c.run_len-size.result + 1 + r.1 ≤ length c.args.text.now) (λ r e. omega (arith, w, ap length c.from_offset.ensures, length-drop (c.run_len-size.result + 1) c.args.text.now)) c.open_interval-found.ensures.size)
