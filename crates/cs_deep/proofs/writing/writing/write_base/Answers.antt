-- Batch by batch, the edits that were classed and those that are left are all edits of the base.
use Rattle.std.proofs.Common.{◌≡◌, ◌<◌, List, [], ◌++◌, ℕ, length, refl, subst, sym, ap, ◌∙◌, arith}
use Rattle.std.specs.Borrow.{Bor}
use Rattle.std.specs.Prelude.{All, Some}
use Rattle.std.specs.List.{AllZip}
use Rattle.std.proofs.lemmas.Result.{err_from_is_err_and}
use Rattle.cs_deep.proofs.OnWriting.Batch.{can_count, can_judge, entries_of, fewer_left, fit_each, named_entries, searched_edits, taken_each}
use Rattle.cs_deep.proofs.OnWriting.Edited.{edits_all, edits_counted, edits_cut, edits_memory, edits_more, edits_none}
use Rattle.cs_deep.specs.Edits.Candidates.{IsCandidate, edits_in}
use Rattle.cs_deep.specs.Writing.Deep.{EditEntry, edit_lines}
use Rattle.cs_deep.specs.Writing.Judging.{CanJudge, Judges}
use Rattle.cs_deep.specs.Writing.Lines.{CanCount, IsNamedEntry}
use Rattle.cs_deep.specs.Writing.Progress.{AreEditsBy}
use Rattle.cs_deep.specs.Writing.Tally.{IsCounted}
use Rattle.cs_deep.specs.declared.edits.candidates.Candidate.{Candidate}
use Rattle.cs_deep.specs.declared.writing.judging.DeepWork.{DeepWork}
use Rattle.cs_deep.specs.declared.writing.writing.Deep.{Deep}
use Rattle.cs_grammar.specs.Grammar.{IsNumberOf, PlainGrammar}
use Rattle.cs_io.specs.Lines.{IsCutShort, IsWritten}
use Rattle.cs_mutate.specs.Negatives.{Search}
use Rattle.cs_mutate.specs.declared.edit.Edit.{Edit}
use Rattle.cs_writing.proofs.OnWriting.Ones.{nothing_in}
use Rattle.cs_manifest.specs.Manifest.ByWork.{texts_of}
use Rattle.cs_deep.proofs.writing.writing.write_base.Given.{Over}
use Rattle.cs_deep.proofs.writing.writing.write_base.Goals as goal
use Rattle.cs_deep.proofs.writing.writing.write_base.Goals.{In_ok-batch, In_ok-judged, Then-is_empty}

-- what judges the candidates
abbrev work_by : Bor PlainGrammar → Deep → Bor (List ℕ) → DeepWork
work_by recognizer d base = record { recognizer = recognizer; render = d.means.work; base = base }

-- the candidates of the batch are of the base
each : (g : Over) (c : In_ok-batch g) → All (IsCandidate c.args.deep.now.yacc.now.grammar c.args.base.now.tokens.now) c.in_ok-batch.batch.items
each g c =
    taken_each c.batches.candidates.grammar c.args.deep.now.yacc.now.grammar c.batches.candidates.base c.args.base.now.tokens.now c.in_ok-batch.batch.items c.batches.invariant.grammar c.batches.invariant.base c.in_ok-batch.ensures.takes.each

-- what was judged of them
judged_are : (g : Over) (c : In_ok-judged g) → AreEditsBy c.args.deep.now c.args.base.now.tokens.now (edits_in c.in_ok-batch.batch.items) c.in_ok-judged.judged.items
judged_are g c =
    entries_of c.args.deep.now (work_by c.args.recognizer c.args.deep.now c.args.base.now.tokens) c.args.base.now.tokens.now c.requires.ready.grammar refl refl c.in_ok-batch.batch.items c.in_ok-judged.judged.items
    (subst (λ (l : List Candidate). AllZip (λ (x : Candidate) (j : EditEntry). Judges (work_by c.args.recognizer c.args.deep.now c.args.base.now.tokens) x.edit j) l c.in_ok-judged.judged.items) c.deref.ensures.value c.in_ok-judged.ensures)

-- no edit is left
none_left : (g : Over) (c : Then-is_empty g) → c.batches.candidates.edits ≡ []
none_left g c =
    let empty : length c.in_ok-batch.batch.items ≡ 0 = (let e = c.is_empty.ensures in let t = c.if-is_empty.true in let o = c.in_ok-batch.batch.ok in grind arith) in
    c.in_ok-batch.ensures.some (nothing_in c.in_ok-batch.batch.items empty)

pub batches-init : goal.batches-init
batches-init g c =
    let d = c.args.deep.now in
    let s = c.new-candidates.result in
    let pairs = c.requires.ready.ready.plan.form.pairs in
    record {
      grammar = ap (λ (x : Search). x.grammar) c.new-candidates.ensures ∙ pairs;
      base = ap (λ (x : Search). x.base) c.new-candidates.ensures;
      so_far = edits_none g.S.Sink d c.one_text.ensures c.args.base.now.number c.args.base.now.tokens.now c.args.tally.now c.args.sink.now s.edits
          (searched_edits s d.means.mutation.pairs.now.grammar d.yacc.now.grammar c.args.base.now.tokens.now d.means.mutation.operators c.new-candidates.ensures pairs);
    }

pub batches-smaller : goal.batches-smaller
batches-smaller g c =
    let some : 0 < length c.in_ok-batch.batch.items = (let e = c.is_empty.ensures in let t = c.if-is_empty.false in let o = c.in_ok-batch.batch.ok in grind arith) in
    fewer_left c.batches.candidates.edits c.in_ok-batch.batch.items c.next_batch.new.candidates.edits c.in_ok-batch.ensures.takes.edits some

pub new-candidates-requires-clause-short : goal.new-candidates-requires-clause-short
new-candidates-requires-clause-short g c = c.requires.base.short

pub new-candidates-requires-clause-tokens : goal.new-candidates-requires-clause-tokens
new-candidates-requires-clause-tokens g c =
    subst (λ (h : PlainGrammar). All (IsNumberOf h.tokens) c.args.base.now.tokens.now) (sym c.requires.ready.ready.plan.form.pairs) c.requires.base.tokens_of

pub judge_batch-requires-clause-takes : goal.judge_batch-requires-clause-takes
judge_batch-requires-clause-takes g c = λ κs met.
    let at = (goal.at.judge_batch-requires-clause-takes g c).In_ok-batch in
    let d = c.args.deep.now in
    let own = c.requires.ready.grammar in
    let tokens = subst (λ (h : PlainGrammar). All (IsNumberOf h.tokens) c.args.base.now.tokens.now) (sym own) c.requires.base.tokens_of in
    let lexemes = c.requires.ready.ready.plan.form.texts.all ∙ ap (λ (h : PlainGrammar). h.tokens) (sym own) in
    let here = taken_each d.yacc.now.grammar c.args.recognizer.now c.args.base.now.tokens.now c.args.base.now.tokens.now c.in_ok-batch.batch.items (sym own) refl (each g at) in
    let work = work_by c.args.recognizer d c.args.base.now.tokens in
    subst (λ (l : List Candidate). All (CanJudge work) l) (sym c.deref.ensures.value) (can_judge work c.requires.base.short tokens lexemes c.in_ok-batch.batch.items here)

-- memory ran out
pub returns-in_err-batch-clause-text : goal.returns-in_err-batch-clause-text
returns-in_err-batch-clause-text g c =
    let p = err_from_is_err_and c.from_residual.result c.from_residual.ensures.1 in
    rw (p.1, p.2) (edits_memory g.S.Sink c.args.deep.now c.one_text.ensures c.args.base.now.number c.args.base.now.tokens.now c.args.tally.now c.args.sink.now
    c.batches.candidates.edits c.batches.sink c.batches.tally c.batches.invariant.so_far)

pub returns-in_err-judged-clause-text : goal.returns-in_err-judged-clause-text
returns-in_err-judged-clause-text g c =
    let p = err_from_is_err_and c.from_residual-in_err-judged.result c.from_residual-in_err-judged.ensures.1 in
    rw (p.1, p.2) (edits_memory g.S.Sink c.args.deep.now c.one_text.ensures c.args.base.now.number c.args.base.now.tokens.now c.args.tally.now c.args.sink.now
    c.batches.candidates.edits c.batches.sink c.batches.tally c.batches.invariant.so_far)

-- no edit was left
pub returns-then-is_empty-clause-text : goal.returns-then-is_empty-clause-text
returns-then-is_empty-clause-text g c =
    edits_all g.S.Sink c.args.deep.now c.one_text.ensures c.args.base.now.number c.args.base.now.tokens.now c.args.tally.now c.args.sink.now
    c.batches.candidates.edits c.batches.sink c.batches.tally c.batches.invariant.so_far (none_left g (goal.at.returns-then-is_empty-clause-text g c).Then-is_empty)

pub returns-then-is_empty-clause-counted : goal.returns-then-is_empty-clause-counted
returns-then-is_empty-clause-counted g c =
    edits_counted g.S.Sink c.args.deep.now c.one_text.ensures c.args.base.now.number c.args.base.now.tokens.now c.args.tally.now c.args.sink.now
    c.batches.candidates.edits c.batches.sink c.batches.tally c.batches.invariant.so_far (none_left g (goal.at.returns-then-is_empty-clause-counted g c).Then-is_empty)

pub batches-preserved : goal.batches-preserved
batches-preserved g c =
    let at = goal.at.batches-preserved g c in
    let d = c.args.deep.now in
    let batch = c.in_ok-batch.batch.items in
    let takes = c.in_ok-batch.ensures.takes in
    let judged = c.in_ok-judged.judged.items in
    let e = c.in_ok-write_edits.ensures in
    let written = subst (λ (l : List EditEntry). IsWritten g.S.Sink (edit_lines d.yacc.now c.args.base.now.number c.batches.tally.deep l) c.batches.sink c.write_edits.new.sink) c.deref-in-batches.ensures.value e.lines in
    let counted = subst (λ (l : List EditEntry). IsCounted l c.batches.tally c.write_edits.new.tally) c.deref-in-batches.ensures.value e.counted in
    record {
      grammar = takes.grammar ∙ c.batches.invariant.grammar;
      base = takes.base ∙ c.batches.invariant.base;
      so_far = edits_more g.S.Sink d c.one_text.ensures c.args.base.now.number c.args.base.now.tokens.now c.args.tally.now c.args.sink.now c.batches.candidates.edits (edits_in batch) c.next_batch.new.candidates.edits
          c.batches.sink c.write_edits.new.sink c.batches.tally c.write_edits.new.tally judged c.batches.invariant.so_far takes.edits (judged_are g at.In_ok-judged) written counted;
    }

pub write_edits-requires-clause-named : goal.write_edits-requires-clause-named
write_edits-requires-clause-named g c =
    let at = goal.at.write_edits-requires-clause-named g c in
    let d = c.args.deep.now in
    let batch = c.in_ok-batch.batch.items in
    let fits = fit_each d.yacc.now.grammar c.args.base.now.tokens.now batch (each g at.In_ok-batch) in
    subst (λ (l : List EditEntry). All (IsNamedEntry d.yacc.now) l) (sym c.deref-in-batches.ensures.value)
    (named_entries d.yacc.now c.requires.ready.ready.plan.file (Some (texts_of d.means.work.now)) (Some d.means.work.now.lexemes.now) c.args.base.now.tokens.now c.requires.base.tokens_of
    (edits_in batch) c.in_ok-judged.judged.items fits (judged_are g at.In_ok-judged))

pub write_edits-requires-clause-few : goal.write_edits-requires-clause-few
write_edits-requires-clause-few g c =
    let at = goal.at.write_edits-requires-clause-few g c in
    let far = c.batches.invariant.so_far in
    let batch = c.in_ok-batch.batch.items in
    let whole = far.split ∙ ap (λ (l : List Edit). far.done ++ l) c.in_ok-batch.ensures.takes.edits in
    subst (λ (l : List EditEntry). CanCount c.batches.tally l) (sym c.deref-in-batches.ensures.value)
    (can_count c.args.deep.now c.args.base.now.tokens.now c.args.tally.now c.batches.tally far.done (edits_in batch) c.next_batch.new.candidates.edits far.entries c.in_ok-judged.judged.items c.requires.few
    whole far.are (judged_are g at.In_ok-judged) far.counted)

pub returns-in_err-write_edits-clause-text : goal.returns-in_err-write_edits-clause-text
returns-in_err-write_edits-clause-text g c =
    let p = err_from_is_err_and c.from_residual-in_err-write_edits.result c.from_residual-in_err-write_edits.ensures.1 in
    let at = goal.at.returns-in_err-write_edits-clause-text g c in
    let d = c.args.deep.now in
    let batch = c.in_ok-batch.batch.items in
    let cut = subst (λ (l : List EditEntry). IsCutShort g.S.Sink (edit_lines d.yacc.now c.args.base.now.number c.batches.tally.deep l) c.batches.sink c.write_edits.new.sink) c.deref-in-batches.ensures.value c.in_err-write_edits.ensures.lines in
    rw (p.1, p.2) (edits_cut g.S.Sink d c.one_text.ensures c.args.base.now.number c.args.base.now.tokens.now c.args.tally.now c.args.sink.now c.batches.candidates.edits (edits_in batch) c.next_batch.new.candidates.edits
    c.batches.sink c.write_edits.new.sink c.batches.tally c.in_ok-judged.judged.items c.batches.invariant.so_far c.in_ok-batch.ensures.takes.edits (judged_are g at.In_ok-judged) cut)

-- the names of what is lent stay
pub returns-in_err-batch-clause-lent : goal.returns-in_err-batch-clause-lent
returns-in_err-batch-clause-lent g c = c.batches.invariant.so_far.written.lent

pub returns-then-is_empty-clause-lent : goal.returns-then-is_empty-clause-lent
returns-then-is_empty-clause-lent g c = c.batches.invariant.so_far.written.lent

pub returns-in_err-judged-clause-lent : goal.returns-in_err-judged-clause-lent
returns-in_err-judged-clause-lent g c = c.batches.invariant.so_far.written.lent

pub returns-in_err-write_edits-clause-lent : goal.returns-in_err-write_edits-clause-lent
returns-in_err-write_edits-clause-lent g c = c.in_err-write_edits.ensures.lines.lent ∙ c.batches.invariant.so_far.written.lent
