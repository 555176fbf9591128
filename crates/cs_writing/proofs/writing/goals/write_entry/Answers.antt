-- The lines of the case and behind them the goal's, or where either's are cut short, those of the entry are.
use Rattle.std.proofs.Common.{◌≡◌, List, ℕ, subst, sym, ap, ◌∙◌}
use Rattle.std.proofs.lemmas.Result.{err_from_is_err_and}
use Rattle.cs_io.specs.Lines.{IsCutShort, IsWritten}
use Rattle.cs_manifest.proofs.OnOutput.Written.{cut_longer, written_cut, written_then}
use Rattle.cs_manifest.specs.Manifest.Counts.{with_lines, with_verdict}
use Rattle.cs_manifest.specs.Writer.Entry.{lines_of}
use Rattle.cs_manifest.specs.Writer.Progress.{Progress}
use Rattle.cs_manifest.specs.declared.manifest.counts.Counts.{Counts}
use Rattle.cs_writing.specs.Plan.Made.{IsNamedMade, goal_lines_in}
use Rattle.cs_yacc.specs.Reading.File.{File}
use Rattle.cs_writing.proofs.writing.goals.write_entry.Goals as goal

pub returns-in_err-write_case-clause-lines : goal.returns-in_err-write_case-clause-lines
returns-in_err-write_case-clause-lines g c =
    let p = err_from_is_err_and c.from_residual.result c.from_residual.ensures.1 in
    let made = c.args.made.now in
    rw p.1 (cut_longer (goal_lines_in c.args.manifest.now.file c.args.number made made.shared) c.in_err-write_case.ensures.lines)

pub entry-requires : goal.entry-requires
entry-requires g c =
    c.goal.ensures.named c.write_case.new.manifest.file (subst (λ (f : File). IsNamedMade f c.args.made.now) (sym c.in_ok-write_case.ensures.file) c.requires.named)

-- the goal's line, by the file as it was
line_is : (now file : File) (lines : File → List ℕ) (line : List ℕ) → now ≡ file → line ≡ lines now → line ≡ lines file
line_is now file lines line same is = is ∙ ap lines same

pub returns-in_err-entry-clause-lines : goal.returns-in_err-entry-clause-lines
returns-in_err-entry-clause-lines g c =
    let now = c.write_case.new.manifest.file in
    let made = c.args.made.now in
    let line = lines_of now c.goal.result in
    let is = line_is now c.args.manifest.now.file (λ (f : File). goal_lines_in f c.args.number made made.shared) line c.in_ok-write_case.ensures.file (c.goal.ensures.lines now) in
    let p = err_from_is_err_and c.from_residual-in_err-entry.result c.from_residual-in_err-entry.ensures.1 in
    rw p.1 (written_cut c.in_ok-write_case.ensures.lines (subst (λ (l : List ℕ). IsCutShort g.S.Sink l c.write_case.new.sink c.entry.new.sink) is c.in_err-entry.ensures.lines))

pub returns-clause-counted : goal.returns-clause-counted
returns-clause-counted g c =
    let now = c.write_case.new.manifest.file in
    let made = c.args.made.now in
    let counts = c.write_case.new.manifest.counts in
    let line = lines_of now c.goal.result in
    let is = line_is now c.args.manifest.now.file (λ (f : File). goal_lines_in f c.args.number made made.shared) line c.in_ok-write_case.ensures.file (c.goal.ensures.lines now) in
    ap (λ (p : Progress). p.counts) c.in_ok-entry.ensures.value ∙ ap (λ (k : Counts). with_lines k line) (c.goal.ensures.counts counts)
    ∙ ap (λ (l : List ℕ). with_lines (with_verdict counts made.verdict) l) is
    ∙ ap (λ (k : Counts). with_lines (with_verdict k made.verdict) (goal_lines_in c.args.manifest.now.file c.args.number made made.shared)) c.in_ok-write_case.ensures.counted

pub returns-clause-lines : goal.returns-clause-lines
returns-clause-lines g c =
    let now = c.write_case.new.manifest.file in
    let made = c.args.made.now in
    let line = lines_of now c.goal.result in
    let is = line_is now c.args.manifest.now.file (λ (f : File). goal_lines_in f c.args.number made made.shared) line c.in_ok-write_case.ensures.file (c.goal.ensures.lines now) in
    written_then c.in_ok-write_case.ensures.lines (subst (λ (l : List ℕ). IsWritten g.S.Sink l c.write_case.new.sink c.entry.new.sink) is c.in_ok-entry.ensures.lines)
