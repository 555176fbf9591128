-- Where no other form stands in front, the literal there is named, and without one nothing is.
use Rattle.std.proofs.Common.{sym, ◌∙◌}
use Rattle.cs_lex.proofs.OnActions.NamesBehind.{no_named, literal_named}
use Rattle.cs_lex.proofs.actions.named.named_at.Goals as goal

pub returns-in_err-byte : goal.returns-in_err-byte
returns-in_err-byte c =
    rw c.from_residual.ensures (no_named c.args.text.now (sym c.begins_with.ensures ∙ c.if-begins_with.false) (sym c.begins_with-2.ensures ∙ c.if-begins_with-2.false) (sym c.begins.ensures ∙ c.if-begins.false) c.in_err-byte.ensures.none)

pub returns : goal.returns
returns c = (literal_named c.args.text.now c.in_ok-byte.byte c.in_ok-byte.size c.in_ok-byte.ensures.literal.0, c.in_ok-byte.ensures.literal.1)
