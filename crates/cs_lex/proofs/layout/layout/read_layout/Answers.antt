-- Where the rules behind the definitions stop, layout stops.
use Rattle.std.proofs.lemmas.Result.{err_from_is_err_and}
use Rattle.cs_lex.proofs.OnLayout.Reading.{rules_stop}
use Rattle.cs_lex.proofs.layout.layout.read_layout.Goals as goal

pub returns-in_err-rules-clause-answers : goal.returns-in_err-rules-clause-answers
returns-in_err-rules-clause-answers c =
    let p = err_from_is_err_and c.from_residual-in_err-rules.result c.from_residual-in_err-rules.ensures.1 in
    rw (p.1, p.2) (rules_stop c.args.bytes.now c.in_ok-section.section.definitions.items c.in_ok-section.section.behind c.in_err-rules.field-0.0 c.in_ok-section.ensures.answers.0 c.in_err-rules.ensures.answers)
