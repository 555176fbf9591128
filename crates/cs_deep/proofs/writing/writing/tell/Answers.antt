-- The head, the bases and the end make up the text, and a stop at any of them leaves a front of it.
use Rattle.std.proofs.Common.{◌≡◌, ◌≤◌, List, ℕ, length, subst, sym, ap, ◌∙◌}
use Rattle.std.proofs.lemmas.Result.{err_from_is_err_and}
use Rattle.cs_deep.proofs.OnWriting.Telling.{bases_stop, editable, end_cut, few_goals_of, head_cut, kept_list, memory_first, whole}
use Rattle.cs_deep.specs.Edits.Bases.{GivesBases}
use Rattle.cs_deep.specs.Writing.Lines.{end_with}
use Rattle.cs_deep.specs.Writing.Progress.{CountsBases, IsBasesText, IsDeepOf, most_by}
use Rattle.cs_io.specs.Faults.{greatest}
use Rattle.cs_io.specs.Lines.{IsCutShort, IsWritten}
use Rattle.cs_io.specs.Stops.{HasSomeText, HasText}
use Rattle.cs_verdicts.specs.Positive.Positives.{ToJudge, positives_of}
use Rattle.cs_deep.proofs.writing.writing.tell.Given.{Over}
use Rattle.cs_deep.proofs.writing.writing.tell.Goals as goal
use Rattle.cs_deep.proofs.writing.writing.tell.Goals.{In_ok-bases, In_ok-write_bases}

-- the bases that were kept
gives : (g : Over) (c : In_ok-bases g) → GivesBases (most_by c.args.deep.now.means) (positives_of c.args.deep.now.tables.now c.args.deep.now.criteria) c.in_ok-bases.bases
gives g c =
    let kept = c.in_ok-bases.bases in
    let own = subst (λ (n : ℕ). GivesBases n c.new-positives.result kept) c.most_bases.ensures c.in_ok-bases.ensures in
    subst (λ (left : ToJudge). GivesBases (most_by c.args.deep.now.means) left kept) c.new-positives.ensures own

pub returns-in_err-recognizer-clause-text : goal.returns-in_err-recognizer-clause-text
returns-in_err-recognizer-clause-text g c =
    let p = err_from_is_err_and c.from_residual.result c.from_residual.ensures.1 in
    rw (p.1, p.2) (memory_first g.S.Sink (IsDeepOf c.args.deep.now) c.args.sink.now)

pub bases_of-requires-clause-few : goal.bases_of-requires-clause-few
bases_of-requires-clause-few g c =
    subst (λ (left : ToJudge). length left.goals ≤ greatest) (sym c.new-positives.ensures) (few_goals_of c.args.deep.now c.requires)

pub returns-in_err-bases-clause-text : goal.returns-in_err-bases-clause-text
returns-in_err-bases-clause-text g c =
    let p = err_from_is_err_and c.from_residual-in_err-bases.result c.from_residual-in_err-bases.ensures.1 in
    rw (p.1, p.2) (memory_first g.S.Sink (IsDeepOf c.args.deep.now) c.args.sink.now)

pub returns-in_err-write_head-clause-text : goal.returns-in_err-write_head-clause-text
returns-in_err-write_head-clause-text g c =
    let p = err_from_is_err_and c.from_residual-in_err-write_head.result c.from_residual-in_err-write_head.ensures.1 in
    let is = gives g (goal.at.returns-in_err-write_head-clause-text g c).In_ok-bases in
    rw (p.1, p.2) (head_cut c.args.deep.now c.requires c.one_text.ensures is.entries is.are g.S.Sink c.args.sink.now c.write_head.new.sink c.in_err-write_head.ensures)

pub write_bases-requires-clause-bases : goal.write_bases-requires-clause-bases
write_bases-requires-clause-bases g c = λ κs met.
    editable c.args.deep.now c.requires c.in_ok-bases.bases (gives g (goal.at.write_bases-requires-clause-bases g c).In_ok-bases)

pub returns-in_err-write_bases-clause-text : goal.returns-in_err-write_bases-clause-text
returns-in_err-write_bases-clause-text g c =
    let p = err_from_is_err_and c.from_residual-in_err-write_bases.result c.from_residual-in_err-write_bases.ensures.1 in
    let d = c.args.deep.now in
    let is = gives g (goal.at.returns-in_err-write_bases-clause-text g c).In_ok-bases in
    let halt = c.in_err-write_bases.field-0.0 in
    let stops = subst (λ (l : List (ℕ × List ℕ)). HasSomeText g.S.Sink (IsBasesText d l) c.write_head.new.sink c.write_bases.new.sink halt)
    (kept_list d c.requires c.in_ok-bases.bases is) c.in_err-write_bases.ensures.text in
    rw (p.1, p.2) (bases_stop d c.requires c.one_text.ensures is.entries is.are g.S.Sink c.args.sink.now c.write_head.new.sink c.in_ok-write_head.ensures c.write_bases.new.sink halt stops)

-- what was written of the bases, and counted, by their list
by_bases : (g : Over) (c : In_ok-write_bases g) (l : List (ℕ × List ℕ)) → c.in_ok-bases.bases.list ≡ l → HasText g.S.Sink (IsBasesText c.args.deep.now l) c.write_head.new.sink c.write_bases.new.sink × CountsBases c.args.deep.now l c.write_bases.new.tally
by_bases g c l same = (
  subst (λ (k : List (ℕ × List ℕ)). HasText g.S.Sink (IsBasesText c.args.deep.now k) c.write_head.new.sink c.write_bases.new.sink) same c.in_ok-write_bases.ensures.text,
  subst (λ (k : List (ℕ × List ℕ)). CountsBases c.args.deep.now k c.write_bases.new.tally) same c.in_ok-write_bases.ensures.counted,
)

pub returns-in_err-write_end-clause-text : goal.returns-in_err-write_end-clause-text
returns-in_err-write_end-clause-text g c =
    let p = err_from_is_err_and c.from_residual-in_err-write_end.result c.from_residual-in_err-write_end.ensures.1 in
    let at = goal.at.returns-in_err-write_end-clause-text g c in
    let d = c.args.deep.now in
    let is = gives g at.In_ok-bases in
    let same = kept_list d c.requires c.in_ok-bases.bases is in
    let told = by_bases g at.In_ok-write_bases _ same in
    let tally = c.write_bases.new.tally in
    let many = c.len.ensures ∙ ap (λ (l : List (ℕ × List ℕ)). length l) same in
    let cut = subst (λ (n : ℕ). IsCutShort g.S.Sink (end_with n tally) c.write_bases.new.sink c.write_end.new.sink) many c.in_err-write_end.ensures in
    rw (p.1, p.2) (end_cut d c.requires c.one_text.ensures is.entries is.are g.S.Sink c.args.sink.now c.write_head.new.sink c.in_ok-write_head.ensures c.write_bases.new.sink tally told.0 told.1 c.write_end.new.sink cut)

pub returns-clause-text : goal.returns-clause-text
returns-clause-text g c =
    let at = goal.at.returns-clause-text g c in
    let d = c.args.deep.now in
    let is = gives g at.In_ok-bases in
    let same = kept_list d c.requires c.in_ok-bases.bases is in
    let told = by_bases g at.In_ok-write_bases _ same in
    let tally = c.write_bases.new.tally in
    let many = c.len.ensures ∙ ap (λ (l : List (ℕ × List ℕ)). length l) same in
    let end = subst (λ (n : ℕ). IsWritten g.S.Sink (end_with n tally) c.write_bases.new.sink c.write_end.new.sink) many c.in_ok-write_end.ensures in
    whole d c.requires c.one_text.ensures is.entries is.are g.S.Sink c.args.sink.now c.write_head.new.sink c.in_ok-write_head.ensures c.write_bases.new.sink tally told.0 told.1 c.write_end.new.sink end
