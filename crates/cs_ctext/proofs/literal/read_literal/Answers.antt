-- A quote, a character of a value from 1 to 255 and a quote are a literal, and nothing else is.
use Rattle.std.proofs.Common.{Some, None, drop, sym, ◌∙◌, inl, inr}
use Rattle.cs_ctext.proofs.LiteralValues.{literal_read, literal_refused, no_quote}
use Rattle.cs_ctext.proofs.literal.read_literal.Goals as goal
use Rattle.cs_ctext.proofs.literal.read_literal.Goals.{then-value-eq0-via-then-value-eq0, then-value-eq0-via-else-value-eq0+then-value-gt255, then-value-eq0-via-else-value-eq0+else-value-gt255+then-not-has_at-2}

pub returns-then-not-has_at-clause-none : goal.returns-then-not-has_at-clause-none
returns-then-not-has_at-clause-none c = no_quote (drop c.args.at c.args.bytes.now) (sym c.has_at.ensures ∙ c.if-not-has_at.true)

pub returns-in_err-value-clause-none : goal.returns-in_err-value-clause-none
returns-in_err-value-clause-none c =
    rw c.from_residual.ensures (literal_refused c.args.bytes.now c.from_offset-text.result.now c.args.at None (sym c.has_at.ensures ∙ c.if-not-has_at.false) c.from_offset-text.ensures (sym c.in_err-value.was ∙ c.character.ensures.value) tt)

pub returns-then-value-eq0-clause-none : goal.returns-then-value-eq0-clause-none
returns-then-value-eq0-clause-none c =
    literal_refused c.args.bytes.now c.from_offset-text.result.now c.args.at (Some (c.in_ok-value.value, c.in_ok-value.size)) (sym c.has_at.ensures ∙ c.if-not-has_at.false) c.from_offset-text.ensures (sym c.in_ok-value.was ∙ c.character.ensures.value)
    (elim c.then-value-eq0.branch [
      | then-value-eq0-via-then-value-eq0 w ↦ inl w.if-value-eq0.true
      | then-value-eq0-via-else-value-eq0+then-value-gt255 w ↦ inr (inl w.if-value-gt255.true)
      | then-value-eq0-via-else-value-eq0+else-value-gt255+then-not-has_at-2 w ↦ inr (inr (sym w.has_at-else-value-gt255.ensures ∙ w.if-not-has_at-2.true))
    ])

pub returns-clause-literal : goal.returns-clause-literal
returns-clause-literal c =
    literal_read c.args.bytes.now c.from_offset-text.result.now c.args.at c.in_ok-value.value c.in_ok-value.size (sym c.has_at.ensures ∙ c.if-not-has_at.false) c.from_offset-text.ensures (sym c.character.ensures.value ∙ c.in_ok-value.was) c.if-value-eq0.false c.if-value-gt255.false (sym c.has_at-else-value-gt255.ensures ∙ c.if-not-has_at-2.false)
