-- Batch by batch the entries come next, their bases are kept and their lines written, and fewer goals are left.
use Rattle.std.proofs.Common.{◌≡◌, ◌+◌, ◌<◌, ◌≤◌, List, ℕ, length, refl, subst, sym, ap, ◌∙◌, arith}
use Rattle.std.proofs.lemmas.List.Sums.{count_by-le-length}
use Rattle.std.proofs.lemmas.Result.{err_from_is_err_and}
use Rattle.cs_verdicts.specs.Cases.Cases.{PlainCases}
use Rattle.cs_io.specs.Lines.{IsCutShort, IsWritten}
use Rattle.cs_manifest.specs.Manifest.Manifest.{most_bases}
use Rattle.cs_writing.specs.Plan.Made.{MadeEntry, entries_of, has_new_case, made_lines, new_cases}
use Rattle.cs_writing.specs.Plan.Plans.{choice_in}
use Rattle.cs_writing.proofs.OnPlan.Telling.{cases_grow}
use Rattle.cs_yacc.specs.Reading.File.{File}
use Rattle.cs_io.specs.declared.halt.Halt.TheVariants.{Failed, Memory}
use Rattle.cs_writing.specs.Writing.Mutants.{Keeps}
use Rattle.cs_writing.specs.Writing.Written.{AreCounted, TellsBatch, made_lines_from}
use Rattle.cs_writing.proofs.OnWriting.Batch.{batch_lines_are}
use Rattle.cs_writing.proofs.OnWriting.Kept.{none_kept}
use Rattle.cs_writing.proofs.OnWriting.Parts.{HasEntries, goals_stop, goals_text}
use Rattle.cs_writing.proofs.OnWriting.SoFar.{IsBatch, SoFar, come_next, entries_length, failed_within, fewer_left, goals_told, memory_behind, numbers_left, so_far_all, so_far_more, so_far_none}
use Rattle.cs_writing.proofs.OnWriting.Made.{made_told}
use Rattle.cs_writing.proofs.writing.goals.write_batches.Given.{Over}
use Rattle.cs_writing.proofs.writing.goals.write_batches.Goals as goal
use Rattle.cs_writing.proofs.writing.goals.write_batches.Goals.{In_ok-batch, Then-is_empty}

-- the batch has its lines
batch_of : (g : Over) (c : In_ok-batch g)
    → IsBatch c.args.plan.now c.batches.kept.number c.batches.positives c.batches.kept.cases (entries_of c.in_ok-batch.batch.items) c.next_entries.new.positives c.next_entries.new.cases
    (made_lines_from c.args.plan.now.yacc.now (c.batches.kept.number + 1) c.in_ok-batch.batch.items)
batch_of g c =
    let plan = c.args.plan.now in
    let next = c.in_ok-batch.ensures.entries in
    record {
      next = come_next next;
      told = made_told plan c.batches.positives.tables c.batches.kept.cases c.next_entries.new.cases next.goals c.in_ok-batch.batch.items (c.batches.kept.number + 1) next.each;
    }

-- none came, so that all are written
has_all : (g : Over) (c : Then-is_empty g)
    → HasEntries g.S.Sink c.args.plan.now c.args.positives.now.tables c.args.sink.now c.batches.sink c.args.manifest.now.counts c.batches.manifest.counts c.batches.kept.bases
has_all g c =
    let empty : length c.in_ok-batch.batch.items ≡ 0 = (let e = c.is_empty.ensures in let t = c.if-is_empty.true in let o = c.in_ok-batch.batch.ok in grind arith) in
    so_far_all (entries_length c.in_ok-batch.batch.items ∙ empty) (come_next c.in_ok-batch.ensures.entries) c.batches.invariant.so_far

pub batches-init : goal.batches-init
batches-init g c =
    let plan = c.args.plan.now in
    let tables = c.args.positives.now.tables in
    let goals = c.args.positives.now.goals in
    let counts = c.args.manifest.now.counts in
    let sink = c.args.sink.now in
    let kept = c.args.kept.now in
    let none = so_far_none goals kept.bases counts sink c.requires.ready.all (none_kept (most_bases (choice_in plan)) kept.bases c.requires.bases) in
    record {
      tables = refl;
      file = c.requires.ready.file;
      grammar = ap (λ (x : PlainCases). x.grammar) c.requires.cases;
      so_far = subst (λ (n : ℕ). SoFar g.S.Sink plan tables goals n kept.cases kept.bases counts counts sink sink) (sym c.requires.number)
          (subst (λ (k : PlainCases). SoFar g.S.Sink plan tables goals 0 k kept.bases counts counts sink sink) (sym c.requires.cases) none);
    }

pub batches-smaller : goal.batches-smaller
batches-smaller g c =
    let some : 0 < length c.in_ok-batch.batch.items = (let e = c.is_empty.ensures in let t = c.if-is_empty.false in let o = c.in_ok-batch.batch.ok in grind arith) in
    fewer_left (come_next c.in_ok-batch.ensures.entries) (omega (arith, some, entries_length c.in_ok-batch.batch.items))

pub returns-then-is_empty-clause-text : goal.returns-then-is_empty-clause-text
returns-then-is_empty-clause-text g c = goals_text c.args.plan.now c.args.positives.now (has_all g (goal.at.returns-then-is_empty-clause-text g c).Then-is_empty)

pub returns-then-is_empty-clause-told : goal.returns-then-is_empty-clause-told
returns-then-is_empty-clause-told g c =
    goals_told c.args.plan.now c.args.positives.now c.one_text.ensures c.args.manifest.now c.batches.manifest c.batches.kept.bases
    (has_all g (goal.at.returns-then-is_empty-clause-told g c).Then-is_empty) c.batches.invariant.file

pub returns-in_err-batch-clause-text : goal.returns-in_err-batch-clause-text
returns-in_err-batch-clause-text g c =
    let p = err_from_is_err_and c.from_residual.result c.from_residual.ensures.1 in
    rw (p.1, p.2) (goals_stop c.args.plan.now c.args.positives.now c.args.sink.now c.batches.sink Memory (memory_behind c.batches.invariant.so_far c.one_text.ensures))

pub keep_bases-requires : goal.keep_bases-requires
keep_bases-requires g c =
    (numbers_left c.requires.ready c.batches.invariant.tables c.batches.invariant.so_far (come_next c.in_ok-batch.ensures.entries) (ap length c.deref.ensures.value ∙ sym (entries_length c.in_ok-batch.batch.items))).few

pub returns-in_err-keep_bases-clause-text : goal.returns-in_err-keep_bases-clause-text
returns-in_err-keep_bases-clause-text g c =
    let p = err_from_is_err_and c.from_residual-in_err-keep_bases.result c.from_residual-in_err-keep_bases.ensures.1 in
    rw (p.1, p.2) (goals_stop c.args.plan.now c.args.positives.now c.args.sink.now c.batches.sink Memory (memory_behind c.batches.invariant.so_far c.one_text.ensures))

pub write_batch-requires-clause-numbers : goal.write_batch-requires-clause-numbers
write_batch-requires-clause-numbers g c =
    numbers_left c.requires.ready c.batches.invariant.tables c.batches.invariant.so_far (come_next c.in_ok-batch.ensures.entries) (ap length c.deref-in-batches.ensures.value ∙ sym (entries_length c.in_ok-batch.batch.items))

pub returns-in_err-write_batch-clause-text : goal.returns-in_err-write_batch-clause-text
returns-in_err-write_batch-clause-text g c =
    let p = err_from_is_err_and c.from_residual-in_err-write_batch.result c.from_residual-in_err-write_batch.ensures.1 in
    let batch = batch_of g (goal.at.returns-in_err-write_batch-clause-text g c).In_ok-batch in
    let is = batch_lines_are made_lines (c.batches.kept.number + 1) c.batches.invariant.file c.deref-in-batches.ensures.value in
    let cut = subst (λ (l : List ℕ). IsCutShort g.S.Sink l c.batches.sink c.write_batch.new.sink) is c.in_err-write_batch.ensures.lines in
    let stopped = failed_within c.batches.invariant.tables c.batches.invariant.so_far batch c.one_text.ensures cut in
    rw (p.1, p.2) (goals_stop c.args.plan.now c.args.positives.now c.args.sink.now c.write_batch.new.sink Failed stopped)

pub batches-preserved : goal.batches-preserved
batches-preserved g c =
    let e = c.in_ok-write_batch.ensures in
    let made = c.in_ok-batch.batch.items in
    let number = c.batches.kept.number in
    let batch = batch_of g (goal.at.batches-preserved g c).In_ok-batch in
    let is = batch_lines_are made_lines (number + 1) c.batches.invariant.file c.deref-in-batches.ensures.value in
    let written = subst (λ (l : List ℕ). IsWritten g.S.Sink l c.batches.sink c.write_batch.new.sink) is e.lines in
    let told = subst (λ (es : List MadeEntry). TellsBatch number es c.write_batch.new.number c.batches.manifest c.write_batch.new.manifest) c.deref-in-batches.ensures.value e.told in
    let counted = subst (λ (f : File). AreCounted (entries_of made) (new_cases made) (made_lines_from f (number + 1) made) c.batches.manifest.counts c.write_batch.new.manifest.counts) c.batches.invariant.file told.counted in
    let keeps = subst (λ (es : List MadeEntry). Keeps number (entries_of es) c.batches.kept.bases c.keep_bases.new.bases) c.deref.ensures.value c.in_ok-keep_bases.ensures in
    let next = c.in_ok-batch.ensures.entries in
    let grown = cases_grow c.args.plan.now c.batches.positives.tables c.batches.kept.cases c.next_entries.new.cases next.goals made next.each in
    let fewer : new_cases made ≤ length (entries_of made) = omega (arith, entries_length made, count_by-le-length (λ (m : MadeEntry). has_new_case m.shared) made) in
    record {
      tables = c.in_ok-batch.ensures.tables ∙ c.batches.invariant.tables;
      file = told.file ∙ c.batches.invariant.file;
      grammar = c.in_ok-batch.ensures.grammar ∙ c.batches.invariant.grammar;
      so_far = so_far_more c.batches.invariant.tables c.batches.invariant.so_far batch grown fewer told.number written counted keeps;
    }
