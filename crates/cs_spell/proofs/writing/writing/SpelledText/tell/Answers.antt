-- Where memory runs out before the verdicts are made, nothing was written.
use Rattle.std.proofs.lemmas.Result.{err_from_is_err_and}
use Rattle.cs_io.proofs.Stops.{stopped_by_memory}
use Rattle.cs_manifest.proofs.OnOutput.Written.{written_none}
use Rattle.cs_spell.proofs.writing.writing.SpelledText.tell.Goals as goal

pub returns-in_err-costs-clause-text : goal.returns-in_err-costs-clause-text
returns-in_err-costs-clause-text g c =
    let p = err_from_is_err_and c.from_residual.result c.from_residual.ensures.1 in
    rw (p.1, p.2) (λ text is. stopped_by_memory (written_none c.args.sink.now) text)

pub returns-in_err-embeds-clause-text : goal.returns-in_err-embeds-clause-text
returns-in_err-embeds-clause-text g c =
    let p = err_from_is_err_and c.from_residual-in_err-embeds.result c.from_residual-in_err-embeds.ensures.1 in
    rw (p.1, p.2) (λ text is. stopped_by_memory (written_none c.args.sink.now) text)

pub returns-in_err-judged-clause-text : goal.returns-in_err-judged-clause-text
returns-in_err-judged-clause-text g c =
    let p = err_from_is_err_and c.from_residual-in_err-judged.result c.from_residual-in_err-judged.ensures.1 in
    rw (p.1, p.2) (λ text is. stopped_by_memory (written_none c.args.sink.now) text)
