-- A token mark says what is spelled behind its blanks and before the two bytes that close it.
use Rattle.std.proofs.Common.{sym, ◌∙◌, ap, take, List, ℕ}
use Rattle.std.specs.List.{prefix_len}
use Rattle.cs_bytes.specs.Classes.{is_blank}
use Rattle.cs_lex.proofs.OnActions.MarksFound.{given_found}
use Rattle.cs_lex.proofs.actions.mark.mark_of.Goals as goal

pub returns : goal.returns
returns c =
    given_found c.args.comment.now c.from_offset-inside.result.now c.from_offset-rest.result.now c.to_offset.result.now c.run_len-blanks.result c.spelled.result (sym c.same_bytes.ensures ∙ c.if-same_bytes.false) (sym c.begins_with.ensures ∙ c.if-not-begins_with.false)
    c.from_offset-inside.ensures (c.run_len-blanks.ensures.len ∙ ap (λ (t : List ℕ). prefix_len is_blank t) c.from_offset-inside.ensures) c.if-blanks-eq0.false c.from_offset-rest.ensures (c.to_offset.ensures ∙ ap (λ (k : ℕ). take k c.from_offset-rest.result.now) c.saturating_sub.ensures) c.spelled.ensures
