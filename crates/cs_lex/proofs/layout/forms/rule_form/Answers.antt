-- The rule is open where the run behind its pattern and blanks is.
use Rattle.cs_lex.proofs.OnLayout.OpenRules.{open_rule}
use Rattle.cs_lex.proofs.layout.forms.rule_form.Goals as goal

pub returns-in-Open : goal.returns-in-Open
returns-in-Open c =
    open_rule c.args.text.now c.from_offset.result.now c.from_offset-2.result.now c.pattern_size-pattern_to.result c.run_len.result c.in-Open.len c.pattern_size-pattern_to.ensures.extent c.from_offset.ensures c.run_len.ensures.len c.from_offset-2.ensures
    c.in-Open.ensures.0 c.in-Open.ensures.1
