-- Each batch is classed and written behind the slips before it.
use Rattle.std.proofs.Common.{◌≡◌, ◌<◌, ◌≤◌, List, [], ℕ, length, refl, subst, sym, ap, ◌∙◌, arith}
use Rattle.std.specs.Prelude.{All}
use Rattle.std.specs.List.{AllZip}
use Rattle.std.proofs.lemmas.Result.{err_from_is_err_and}
use Rattle.cs_grammar.specs.Weights.{Weighed}
use Rattle.cs_io.specs.Faults.{greatest}
use Rattle.cs_io.specs.Lines.{IsCutShort, IsWritten}
use Rattle.cs_texts.specs.declared.rendering.render_work.RenderWork.{RenderWork}
use Rattle.cs_wrong.proofs.OnWriting.Batches.{SlipsSoFar, fewer_left, nothing_in, slips_all, slips_count, slips_counted, slips_cut, slips_memory, slips_more, slips_none}
use Rattle.cs_wrong.proofs.OnClasses.Behind.{length-behind}
use Rattle.cs_wrong.proofs.OnSlips.Few.{few_slips}
use Rattle.cs_wrong.proofs.OnWriting.Judged.{can_judge, entries_of, named_entries}
use Rattle.cs_wrong.proofs.OnClasses.Taking.{can_all}
use Rattle.cs_manifest.proofs.OnManifest.Zips.{length_zip}
use Rattle.cs_wrong.specs.Classes.Classes.{behind}
use Rattle.cs_wrong.specs.Classes.Coming.{CanTake, PlainComing, Takes, all_coming, slips_in}
use Rattle.cs_wrong.specs.Writing.Entries.{IsNamedEntry, lines_from}
use Rattle.cs_wrong.specs.Writing.Judging.{CanJudge, Judges}
use Rattle.cs_wrong.specs.Writing.Progress.{AreEntries, all_slips, lexemes_by, texts_by, weighed_in}
use Rattle.cs_wrong.specs.Writing.Tally.{CanCount, IsCounted}
use Rattle.cs_wrong.specs.Writing.Text.{IsEntryOf, SlipEntry}
use Rattle.cs_wrong.specs.declared.classes.coming.Candidate.{Candidate}
use Rattle.cs_wrong.specs.declared.slips.slip.Slip.{Slip}
use Rattle.cs_wrong.proofs.writing.writing.write_slips.Given.{Over}
use Rattle.cs_wrong.proofs.writing.writing.write_slips.Goals as goal
use Rattle.cs_wrong.proofs.writing.writing.write_slips.Goals.{In_ok-batch, In_ok-entries, Then-is_empty}

-- what was taken, by the weights of the file
takes : (g : Over) (c : In_ok-batch g) → Takes (weighed_in c.args.asked.now) c.batches.coming c.in_ok-batch.batch.items c.next_batch.new.coming
takes g c = subst (λ (v : Weighed). Takes v c.batches.coming c.in_ok-batch.batch.items c.next_batch.new.coming) c.requires.making.pairs c.in_ok-batch.ensures.takes

-- what was judged of them
judged : (g : Over) (c : In_ok-entries g) → AllZip (Judges c.args.making.now.judging) c.in_ok-batch.batch.items c.in_ok-entries.entries.items
judged g c = subst (λ (l : List Candidate). AllZip (Judges c.args.making.now.judging) l c.in_ok-entries.entries.items) c.deref.ensures.value c.in_ok-entries.ensures

-- which are entries
taken : (g : Over) (c : In_ok-entries g) → Takes (weighed_in c.args.asked.now) c.batches.coming c.in_ok-batch.batch.items c.next_batch.new.coming
taken g c = subst (λ (v : Weighed). Takes v c.batches.coming c.in_ok-batch.batch.items c.next_batch.new.coming) c.requires.making.pairs c.in_ok-batch.ensures.takes

told : (g : Over) (c : In_ok-entries g) → AreEntries c.args.asked.now (behind c.batches.coming.earlier (slips_in c.in_ok-batch.batch.items)) c.in_ok-entries.entries.items
told g c =
    let d = c.args.asked.now in
    entries_of (weighed_in d) c.args.making.now.judging c.requires.making.recognizer d.work.now c.requires.making.render (behind c.batches.coming.earlier (slips_in c.in_ok-batch.batch.items)) c.in_ok-batch.batch.items
    c.in_ok-entries.entries.items (taken g c).each (judged g c)

-- no slip is left
none_left : (g : Over) (c : Then-is_empty g) → c.batches.coming.left ≡ []
none_left g c =
    let empty : length c.in_ok-batch.batch.items ≡ 0 = (let e = c.is_empty.ensures in let t = c.if-is_empty.true in let o = c.in_ok-batch.batch.ok in grind arith) in
    c.in_ok-batch.ensures.some (nothing_in c.in_ok-batch.batch.items empty)

pub batches-init : goal.batches-init
batches-init g c =
    let d = c.args.asked.now in
    let same = c.new-coming.ensures ∙ ap all_coming c.requires.slips in
    record {
      far = subst (λ (s : PlainComing). SlipsSoFar g.S.Sink d c.args.sink.now s.earlier s.left c.args.sink.now c.args.tally.now) (sym same) (slips_none g.S.Sink d c.args.sink.now c.args.tally.now c.requires.tally);
      can = subst (λ (s : PlainComing). CanTake (weighed_in d) s) (sym same) (can_all (weighed_in d) d.chosen (c.each_slip_once.ensures.all d.yacc.now.grammar d.chosen));
    }

pub batches-smaller : goal.batches-smaller
batches-smaller g c =
    let some : 0 < length c.in_ok-batch.batch.items = (let e = c.is_empty.ensures in let t = c.if-is_empty.false in let o = c.in_ok-batch.batch.ok in grind arith) in
    fewer_left c.batches.coming.left c.in_ok-batch.batch.items c.next_batch.new.coming.left c.in_ok-batch.ensures.takes.left some

pub next_batch-requires : goal.next_batch-requires
next_batch-requires g c = subst (λ (v : Weighed). CanTake v c.batches.coming) (sym c.requires.making.pairs) c.batches.invariant.can

pub judge_batch-requires-clause-takes : goal.judge_batch-requires-clause-takes
judge_batch-requires-clause-takes g c = λ κs met.
    let at = (goal.at.judge_batch-requires-clause-takes g c).In_ok-batch in
    let d = c.args.asked.now in
    let m = c.args.making.now in
    let lexemes = ap (λ (r : RenderWork). length r.lexemes.now) c.requires.making.render ∙ c.requires.ready.lexemes.all in
    subst (λ (l : List Candidate). All (CanJudge m.judging) l) (sym c.deref.ensures.value)
    (can_judge (weighed_in d) m.judging c.requires.making.recognizer lexemes
    (behind c.batches.coming.earlier (slips_in c.in_ok-batch.batch.items)) c.in_ok-batch.batch.items (takes g at).each)

pub judge_batch-requires-clause-few : goal.judge_batch-requires-clause-few
judge_batch-requires-clause-few g c = λ κs met.
    subst (λ (l : List Candidate). length l ≤ 1024) (sym c.deref.ensures.value) c.in_ok-batch.ensures.few

-- memory ran out
pub returns-in_err-batch-clause-text : goal.returns-in_err-batch-clause-text
returns-in_err-batch-clause-text g c =
    let p = err_from_is_err_and c.from_residual.result c.from_residual.ensures.1 in
    rw (p.1, p.2) (slips_memory g.S.Sink c.args.asked.now c.args.sink.now c.one_text.ensures c.batches.coming.earlier c.batches.coming.left c.batches.sink c.batches.tally c.batches.invariant.far)

pub returns-in_err-entries-clause-text : goal.returns-in_err-entries-clause-text
returns-in_err-entries-clause-text g c =
    let p = err_from_is_err_and c.from_residual-in_err-entries.result c.from_residual-in_err-entries.ensures.1 in
    rw (p.1, p.2) (slips_memory g.S.Sink c.args.asked.now c.args.sink.now c.one_text.ensures c.batches.coming.earlier c.batches.coming.left c.batches.sink c.batches.tally c.batches.invariant.far)

-- no slip was left
pub returns-then-is_empty-clause-text : goal.returns-then-is_empty-clause-text
returns-then-is_empty-clause-text g c =
    slips_all g.S.Sink c.args.asked.now c.args.sink.now c.one_text.ensures c.batches.coming.earlier c.batches.coming.left c.batches.sink c.batches.tally c.batches.invariant.far
    (none_left g (goal.at.returns-then-is_empty-clause-text g c).Then-is_empty)

pub returns-then-is_empty-clause-counted : goal.returns-then-is_empty-clause-counted
returns-then-is_empty-clause-counted g c =
    slips_counted g.S.Sink c.args.asked.now c.args.sink.now c.one_text.ensures c.batches.coming.earlier c.batches.coming.left c.batches.sink c.batches.tally c.batches.invariant.far
    (none_left g (goal.at.returns-then-is_empty-clause-counted g c).Then-is_empty)

pub batches-preserved : goal.batches-preserved
batches-preserved g c =
    let at = goal.at.batches-preserved g c in
    let d = c.args.asked.now in
    let e = c.in_ok-write_entries.ensures in
    let entries = c.in_ok-entries.entries.items in
    let old = c.batches.coming in
    let new = c.next_batch.new.coming in
    let took = taken g at.In_ok-entries in
    let written = subst (λ (l : List SlipEntry). IsWritten g.S.Sink (lines_from d.yacc.now c.batches.tally.wrong l) c.batches.sink c.write_entries.new.sink) c.deref-in-batches.ensures.value e.lines in
    let counted = subst (λ (l : List SlipEntry). IsCounted l c.batches.tally c.write_entries.new.tally) c.deref-in-batches.ensures.value e.counted in
    let far = slips_more g.S.Sink d c.args.sink.now c.one_text.ensures old.earlier old.left (slips_in c.in_ok-batch.batch.items) new.left c.batches.sink c.write_entries.new.sink c.batches.tally c.write_entries.new.tally
    entries c.batches.invariant.far took.left (told g at.In_ok-entries) written counted in
    record {
      far = subst (λ (l : List Slip). SlipsSoFar g.S.Sink d c.args.sink.now l new.left c.write_entries.new.sink c.write_entries.new.tally) (sym took.earlier) far;
      can = subst (λ (v : Weighed). CanTake v new) c.requires.making.pairs c.in_ok-batch.ensures.slips;
    }

pub write_entries-requires-clause-named : goal.write_entries-requires-clause-named
write_entries-requires-clause-named g c =
    let at = goal.at.write_entries-requires-clause-named g c in
    let d = c.args.asked.now in
    subst (λ (l : List SlipEntry). All (IsNamedEntry d.yacc.now) l) (sym c.deref-in-batches.ensures.value)
    (named_entries d.yacc.now c.grammar-named.ensures.named (weighed_in d) refl (texts_by d) (lexemes_by d) c.args.making.now.judging (behind c.batches.coming.earlier (slips_in c.in_ok-batch.batch.items)) c.in_ok-batch.batch.items
    c.in_ok-entries.entries.items (taken g at.In_ok-entries).each (judged g at.In_ok-entries) (told g at.In_ok-entries))

pub write_entries-requires-clause-few : goal.write_entries-requires-clause-few
write_entries-requires-clause-few g c =
    let at = goal.at.write_entries-requires-clause-few g c in
    let d = c.args.asked.now in
    let old = c.batches.coming in
    let more = slips_in c.in_ok-batch.batch.items in
    let rest = c.next_batch.new.coming.left in
    let few : length (all_slips d) ≤ greatest = few_slips d.yacc.now.grammar c.requires.making.weighs.grammar d.chosen in
    let far = subst (λ (l : List Slip). SlipsSoFar g.S.Sink d c.args.sink.now old.earlier l c.batches.sink c.batches.tally) c.in_ok-batch.ensures.takes.left c.batches.invariant.far in
    let can = slips_count g.S.Sink d c.args.sink.now old.earlier more rest c.batches.sink c.batches.tally few far in
    let many = length_zip (IsEntryOf (weighed_in d) (texts_by d) (lexemes_by d)) (behind old.earlier more) c.in_ok-entries.entries.items (told g at.In_ok-entries) ∙ length-behind old.earlier more in
    let own = subst (λ (n : ℕ). CanCount c.batches.tally n) (sym many) can in
    subst (λ (l : List SlipEntry). CanCount c.batches.tally (length l)) (sym c.deref-in-batches.ensures.value) own

pub returns-in_err-write_entries-clause-text : goal.returns-in_err-write_entries-clause-text
returns-in_err-write_entries-clause-text g c =
    let p = err_from_is_err_and c.from_residual-in_err-write_entries.result c.from_residual-in_err-write_entries.ensures.1 in
    let at = goal.at.returns-in_err-write_entries-clause-text g c in
    let d = c.args.asked.now in
    let old = c.batches.coming in
    let cut = subst (λ (l : List SlipEntry). IsCutShort g.S.Sink (lines_from d.yacc.now c.batches.tally.wrong l) c.batches.sink c.write_entries.new.sink) c.deref-in-batches.ensures.value c.in_err-write_entries.ensures.lines in
    rw (p.1, p.2) (slips_cut g.S.Sink d c.args.sink.now c.one_text.ensures old.earlier old.left (slips_in c.in_ok-batch.batch.items) c.next_batch.new.coming.left c.batches.sink c.write_entries.new.sink c.batches.tally
    c.in_ok-entries.entries.items c.batches.invariant.far (taken g at.In_ok-entries).left (told g at.In_ok-entries) cut)
