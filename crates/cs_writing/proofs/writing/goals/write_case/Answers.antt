-- A new case is written and counted with its lines, and one that isn't new has none.
use Rattle.std.proofs.Common.{Bool, List, ℕ, subst, sym, ap, ◌∙◌}
use Rattle.std.specs.Prelude.{if◌then◌else◌}
use Rattle.std.proofs.lemmas.Result.{err_from_is_err_and}
use Rattle.cs_io.specs.Lines.{IsCutShort, IsWritten}
use Rattle.cs_manifest.proofs.OnOutput.Written.{written_none}
use Rattle.cs_manifest.specs.Manifest.Counts.{with_case, with_lines}
use Rattle.cs_manifest.specs.Writer.Entry.{lines_of}
use Rattle.cs_writing.specs.Plan.Made.{case_lines_in}
use Rattle.cs_manifest.specs.Writer.Progress.{Progress}
use Rattle.cs_manifest.specs.declared.manifest.counts.Counts.{Counts}
use Rattle.cs_writing.proofs.writing.goals.write_case.Goals as goal

pub returns-in-None-clause-counted : goal.returns-in-None-clause-counted
returns-in-None-clause-counted g c =
    let file = c.args.manifest.now.file in
    let counts = c.args.manifest.now.counts in
    ap (λ (b : Bool). if b then with_lines (with_case counts) (case_lines_in file c.args.made.now c.args.made.now.shared) else counts) (sym c.in-None.ensures.none)

pub returns-in-None-clause-lines : goal.returns-in-None-clause-lines
returns-in-None-clause-lines g c =
    subst (λ (l : List ℕ). IsWritten g.S.Sink l c.args.sink.now c.args.sink.now) (sym (c.in-None.ensures.no_lines c.args.manifest.now.file)) (written_none c.args.sink.now)

pub entry-requires : goal.entry-requires
entry-requires g c = c.in-Some.ensures.named c.args.manifest.now.file c.requires.named

pub returns-in_err-entry-in-Some-clause-lines : goal.returns-in_err-entry-in-Some-clause-lines
returns-in_err-entry-in-Some-clause-lines g c =
    let file = c.args.manifest.now.file in
    let p = err_from_is_err_and c.from_residual.result c.from_residual.ensures.1 in
    rw p.1 (subst (λ (l : List ℕ). IsCutShort g.S.Sink l c.args.sink.now c.entry.new.sink) (c.in-Some.ensures.lines file) c.in_err-entry-in-Some.ensures.lines)

pub returns-in_ok-entry-in-Some-clause-counted : goal.returns-in_ok-entry-in-Some-clause-counted
returns-in_ok-entry-in-Some-clause-counted g c =
    let file = c.args.manifest.now.file in
    let counts = c.args.manifest.now.counts in
    let made = c.args.made.now in
    ap (λ (p : Progress). p.counts) c.in_ok-entry-in-Some.ensures.value
    ∙ ap (λ (k : Counts). with_lines k (lines_of file c.in-Some.case)) (c.in-Some.ensures.counts counts)
    ∙ ap (λ (l : List ℕ). with_lines (with_case counts) l) (c.in-Some.ensures.lines file)
    ∙ ap (λ (b : Bool). if b then with_lines (with_case counts) (case_lines_in file made made.shared) else counts) (sym c.in-Some.ensures.is_new)

pub returns-in_ok-entry-in-Some-clause-lines : goal.returns-in_ok-entry-in-Some-clause-lines
returns-in_ok-entry-in-Some-clause-lines g c =
    let file = c.args.manifest.now.file in
    subst (λ (l : List ℕ). IsWritten g.S.Sink l c.args.sink.now c.entry.new.sink) (c.in-Some.ensures.lines file) c.in_ok-entry-in-Some.ensures.lines
