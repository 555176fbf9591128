-- A line without a blank behind its name, without a substitute or without a tail is no definition.
use Rattle.std.proofs.Common.{inl, inr}
use Rattle.cs_lex.proofs.OnLayout.Extents.{no_definition, no_tail_there}
use Rattle.cs_lex.proofs.layout.forms.definition_form.Goals as goal
use Rattle.cs_lex.proofs.layout.forms.definition_form.Goals.{else-name_to-from-via-then-name_to-from+then-from-to+else-is_tail, else-name_to-from-via-then-name_to-from+else-from-to, else-name_to-from-via-else-name_to-from}

pub returns-else-name_to-from-clause-none : goal.returns-else-name_to-from-clause-none
returns-else-name_to-from-clause-none c =
    no_definition c.args.line.now _ _ _ _ _ c.run_len-name_to.ensures.len c.from_offset.ensures c.run_len.ensures.len c.from_offset-2.ensures c.pattern_size.ensures.extent
    (elim c.else-name_to-from.branch [
      | else-name_to-from-via-then-name_to-from+then-from-to+else-is_tail w ↦ inr (inr (no_tail_there c.args.line.now _ _ w.from_offset-then-from-to.ensures (w.is_tail.ensures.no w.if-is_tail.false)))
      | else-name_to-from-via-then-name_to-from+else-from-to w ↦ inr (inl w.if-from-to.false)
      | else-name_to-from-via-else-name_to-from w ↦ inl w.if-name_to-from.false
    ])
