-- An `%option` line has seven bytes, and an unknown option or a comment left open is the line's fault.
use Rattle.std.proofs.Common.{sym, ap, ◌∙◌, arith, length}
use Rattle.std.proofs.lemmas.List.{length-drop}
use Rattle.std.proofs.lemmas.Result.{err_from_is_err_and}
use Rattle.cs_lex.specs.Layout.Lines.{definitions_kind}
use Rattle.cs_lex.specs.Layout.Layout.{open_comment, unknown_option}
use Rattle.cs_lex.proofs.OnLayout.Reading.{options_long}
use Rattle.cs_lex.proofs.layout.layout.definitions_line.Goals as goal

pub options_at-requires-clause-within : goal.options_at-requires-clause-within
options_at-requires-clause-within c =
    omega (arith, options_long c.from_offset-text.result.now (sym c.definitions_kind.ensures ∙ c.in-Options.is), ap length c.from_offset-text.ensures, length-drop c.args.at c.args.bytes.now)

pub returns-in_err-options_at-in-Options : goal.returns-in_err-options_at-in-Options
returns-in_err-options_at-in-Options c =
    let p = err_from_is_err_and c.from_residual-in_err-options_at-in-Options.result c.from_residual-in_err-options_at-in-Options.ensures.1 in
    let k = c.in_err-options_at-in-Options.ensures.unknown in
    rw (p.1, p.2) (λ ds. unknown_option k.0 (sym (ap definitions_kind c.from_offset-text.ensures) ∙ (sym c.definitions_kind.ensures ∙ c.in-Options.is)) k.1 k.2)

pub returns-in_err-loose_at-in-Loose : goal.returns-in_err-loose_at-in-Loose
returns-in_err-loose_at-in-Loose c =
    let p = err_from_is_err_and c.from_residual-in_err-loose_at-in-Loose.result c.from_residual-in_err-loose_at-in-Loose.ensures.1 in
    let k = c.in_err-loose_at-in-Loose.ensures.unclosed in
    rw (p.1, p.2) (λ ds. open_comment k.0 (sym (ap definitions_kind c.from_offset-text.ensures) ∙ (sym c.definitions_kind.ensures ∙ c.in-Loose.is)) k.1 k.2)
