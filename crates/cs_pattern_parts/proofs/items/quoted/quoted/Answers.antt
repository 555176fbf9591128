-- Byte by byte up to where none stands, and there is a closing quote or not.
use Rattle.std.proofs.Common.{◌≡◌, ◌+◌, ◌∙◌, ap, sym, arith, List, ℕ}
use Rattle.std.specs.Prelude.{Some, None, if◌then◌else◌}
use Rattle.cs_bytes.specs.Places.{has_at}
use Rattle.cs_pattern_parts.specs.Items.Quoted.{quoted, quoted_byte}
use Rattle.cs_pattern_parts.specs.Items.Steps.{steps}
use Rattle.cs_pattern_parts.proofs.OnItems.Walking.{walks_more, walks_all}
use Rattle.cs_pattern_parts.proofs.OnItems.Moving.{quoted_moves}
use Rattle.cs_bytes.proofs.Fronts.{has_within}
use Rattle.cs_pattern_parts.proofs.items.quoted.quoted.Goals as goal

quoted_is : (text bytes : List ℕ) (at : ℕ) → steps quoted_byte text ≡ (bytes, at) → quoted text ≡ (if has_at text at 34 then Some (bytes, at + 1) else None)
unfolding quoted
quoted_is text bytes at e = ap (λ (r : List ℕ × ℕ). if has_at text r.1 34 then Some (r.0, r.1 + 1) else None) e

pub loop-byte-preserved : goal.loop-byte-preserved
loop-byte-preserved c =
    rw c.in_ok-push.ensures.items (walks_more quoted_byte quoted_moves _ _ c.loop-byte.at c.in-Some.byte c.in-Some.size _ c.from_offset.ensures (sym c.in-Some.ensures.value) c.loop-byte.invariant)

pub returns-then-has_at-clause-value : goal.returns-then-has_at-clause-value
returns-then-has_at-clause-value c =
    sym (quoted_is _ _ _ (walks_all quoted_byte quoted_moves _ _ c.loop-byte.at _ c.from_offset.ensures (sym c.in_default.ensures.value) c.loop-byte.invariant)
    ∙ ap (λ v. if v then Some (c.loop-byte.bytes.items, c.loop-byte.at + 1) else None) (sym c.has_at.ensures ∙ c.if-has_at.true))

pub returns-then-has_at-clause-size : goal.returns-then-has_at-clause-size
returns-then-has_at-clause-size c = omega (arith, has_within c.args.text.now c.loop-byte.at 34 (sym c.has_at.ensures ∙ c.if-has_at.true))

pub returns-else-has_at-clause-value : goal.returns-else-has_at-clause-value
returns-else-has_at-clause-value c =
    sym (quoted_is _ _ _ (walks_all quoted_byte quoted_moves _ _ c.loop-byte.at _ c.from_offset.ensures (sym c.in_default.ensures.value) c.loop-byte.invariant)
    ∙ ap (λ v. if v then Some (c.loop-byte.bytes.items, c.loop-byte.at + 1) else None) (sym c.has_at.ensures ∙ c.if-has_at.false))
