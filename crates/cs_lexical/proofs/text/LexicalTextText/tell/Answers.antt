-- The lines of the least texts are told, all or a front of them, or none where there is no memory for them.
use Rattle.std.proofs.Common.{List, ℕ, refl, subst}
use Rattle.std.proofs.lemmas.Result.{err_from_is_err_and}
use Rattle.cs_io.proofs.Stops.{stopped_by_cut, stopped_by_memory}
use Rattle.cs_io.specs.Stops.{IsStopped}
use Rattle.cs_io.specs.declared.halt.Halt.TheVariants.{Failed}
use Rattle.cs_manifest.proofs.OnOutput.Written.{written_none}
use Rattle.cs_scanner.specs.Scan.Compared.{scanning}
use Rattle.cs_lexical.specs.Lines.{IsLexical, lexical_lines}
use Rattle.cs_lexical.proofs.TextProofs.{one_text}
use Rattle.cs_lexical.proofs.text.LexicalTextText.tell.Goals as goal

pub returns-in_err-lexical-clause-text : goal.returns-in_err-lexical-clause-text
returns-in_err-lexical-clause-text g c =
    let p = err_from_is_err_and c.from_residual.result c.from_residual.ensures.1 in
    rw (p.1, p.2) (λ text is. stopped_by_memory (written_none c.args.sink.now) text)

pub returns-in_err-tell_lines-clause-text : goal.returns-in_err-tell_lines-clause-text
returns-in_err-tell_lines-clause-text g c =
    let p = err_from_is_err_and c.from_residual-in_err-tell_lines.result c.from_residual-in_err-tell_lines.ensures.1 in
    let file = c.args.self.now.file.now in
    let scans = scanning c.args.self.now.scanner in
    let lines = lexical_lines file scans.kinds c.in_ok-lexical.lexical in
    let mine : IsLexical file scans lines = record { texts = c.in_ok-lexical.lexical; are = c.in_ok-lexical.ensures; lines = refl } in
    rw (p.1, p.2) (λ text is.
    subst (λ (l : List ℕ). IsStopped g.S.Sink l c.args.sink.now c.tell_lines.new.sink Failed) (one_text file scans lines text mine is) (stopped_by_cut c.in_err-tell_lines.ensures))

pub returns-clause-text : goal.returns-clause-text
returns-clause-text g c =
    let file = c.args.self.now.file.now in
    let scans = scanning c.args.self.now.scanner in
    record { text = lexical_lines file scans.kinds c.in_ok-lexical.lexical; is = record { texts = c.in_ok-lexical.lexical; are = c.in_ok-lexical.ensures; lines = refl }; written = c.in_ok-tell_lines.ensures }
