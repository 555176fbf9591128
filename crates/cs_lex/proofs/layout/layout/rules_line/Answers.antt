-- A comment that isn't closed is the fault of its loose line.
use Rattle.std.proofs.Common.{sym, ap, ◌∙◌}
use Rattle.std.proofs.lemmas.Result.{err_from_is_err_and}
use Rattle.cs_lex.specs.Layout.Lines.{rules_kind}
use Rattle.cs_lex.proofs.OnLayout.Reading.{loose_fault}
use Rattle.cs_lex.proofs.layout.layout.rules_line.Goals as goal

pub returns-in_err-loose_at-in-Loose : goal.returns-in_err-loose_at-in-Loose
returns-in_err-loose_at-in-Loose c =
    let p = err_from_is_err_and c.from_residual-in_err-loose_at-in-Loose.result c.from_residual-in_err-loose_at-in-Loose.ensures.1 in
    let k = c.in_err-loose_at-in-Loose.ensures.unclosed in
    rw (p.1, p.2) (loose_fault c.args.bytes.now c.args.at k.0 c.in_err-loose_at-in-Loose.field-0.0 (sym (ap rules_kind c.from_offset.ensures) ∙ (sym c.rules_kind.ensures ∙ c.in-Loose.is)) k.1 k.2)
