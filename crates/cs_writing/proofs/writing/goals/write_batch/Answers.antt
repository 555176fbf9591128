-- Entry by entry with the next number, written and counted behind those before; where one is cut short, the batch is.
use Rattle.std.proofs.Common.{rules, ◌≡◌, ◌+◌, List, ℕ, refl, subst, sym, ap, ◌∙◌, arith}
use Rattle.std.proofs.lemmas.List.{length-map, take_all}
use Rattle.std.proofs.lemmas.Result.{err_from_is_err_and}
use Rattle.cs_io.specs.Lines.{IsCutShort, IsWritten}
use Rattle.cs_manifest.proofs.OnOutput.Written.{written_none}
use Rattle.cs_writing.specs.Plan.Made.{IsNamedMade, MadeEntry, entries_of, entry_of, made_lines, new_cases}
use Rattle.cs_yacc.specs.Reading.File.{File}
use Rattle.cs_writing.specs.Writing.Written.{AreCounted, made_lines_from}
use Rattle.cs_manifest.proofs.OnOutput.Numbered.{at_place}
use Rattle.cs_writing.proofs.OnWriting.Batch.{cut_within, lines_are, written_more}
use Rattle.cs_writing.proofs.OnWriting.Cases.{behind_at, old_case_lines}
use Rattle.cs_writing.proofs.OnWriting.Counted.{goals_none}
use Rattle.cs_writing.proofs.OnWriting.Counting.{entry_counted}
use Rattle.cs_writing.proofs.writing.goals.write_batch.Given.{Over}
use Rattle.cs_writing.proofs.writing.goals.write_batch.Goals as goal
use Rattle.cs_writing.proofs.writing.goals.write_batch.Goals.{After-write_entry}

pub loop-made-init : goal.loop-made-init
loop-made-init g c = record {
  file = refl;
  number = omega arith;
  counted = goals_none c.args.manifest.now.counts;
  written = written_none c.args.sink.now;
}

pub write_entry-requires : goal.write_entry-requires
write_entry-requires g c =
    let file = c.loop-made.invariant.file in
    let named = at_place (IsNamedMade c.args.manifest.now.file) c.args.batch.now c.loop-made.made-index c.made-item.result c.loop-made-test.true c.made-item.is c.requires.named in
    record { named = subst (λ (f : File). IsNamedMade f c.made-item.result) (sym file) named }

-- the next entry's lines, by the file as it was
lines_is : (g : Over) (c : After-write_entry g)
    → made_lines c.loop-made.manifest.file (c.loop-made.number + 1) c.made-item.result ≡ made_lines c.args.manifest.now.file (c.args.number.now + 1 + c.loop-made.made-index) c.made-item.result
lines_is g c =
    lines_are made_lines c.args.manifest.now.file c.loop-made.manifest.file (c.args.number.now + 1) c.loop-made.made-index (c.loop-made.number + 1) c.made-item.result
    (made_lines c.loop-made.manifest.file (c.loop-made.number + 1) c.made-item.result) c.loop-made.invariant.file (omega (arith, c.loop-made.invariant.number)) refl

pub returns-in_err-write_entry-clause-lines : goal.returns-in_err-write_entry-clause-lines
returns-in_err-write_entry-clause-lines g c =
    let p = err_from_is_err_and c.from_residual.result c.from_residual.ensures.1 in
    let at = goal.at.returns-in_err-write_entry-clause-lines g c in
    let cut = subst (λ (l : List ℕ). IsCutShort g.S.Sink l c.loop-made.sink c.write_entry.new.sink) (lines_is g at.After-write_entry) c.in_err-write_entry.ensures.lines in
    rw p.1 (cut_within (made_lines c.args.manifest.now.file) (c.args.number.now + 1) c.args.batch.now c.loop-made.made-index c.made-item.result c.loop-made-test.true c.made-item.is
    c.args.sink.now c.loop-made.sink c.write_entry.new.sink c.loop-made.invariant.written cut)

pub loop-made-preserved : goal.loop-made-preserved
loop-made-preserved g c =
    let at = goal.at.loop-made-preserved g c in
    let e = c.in_ok-write_entry.ensures in
    let file = c.args.manifest.now.file in
    let i = c.loop-made.made-index in
    let made = c.made-item.result in
    let counts = c.loop-made.manifest.counts in
    let number : c.loop-made.number + 1 ≡ c.args.number.now + 1 + i = omega (arith, c.loop-made.invariant.number) in
    let one = behind_at counts made c.loop-made.invariant.file number e.counted in
    record {
      file = e.file ∙ c.loop-made.invariant.file;
      number = omega (arith, c.loop-made.invariant.number);
      counted = entry_counted file (c.args.number.now + 1) c.args.batch.now i made c.loop-made-test.true c.made-item.is c.args.number.now c.args.manifest.now.counts counts
          c.write_entry.new.manifest.counts c.requires.numbers.within (old_case_lines file made) (omega (arith, c.requires.numbers.few, c.loop-made-test.true)) c.loop-made.invariant.counted one;
      written = written_more (made_lines file) (c.args.number.now + 1) c.args.batch.now i made c.loop-made-test.true c.made-item.is c.args.sink.now c.loop-made.sink c.write_entry.new.sink
          c.loop-made.invariant.written (subst (λ (l : List ℕ). IsWritten g.S.Sink l c.loop-made.sink c.write_entry.new.sink) (lines_is g at.After-write_entry) e.lines);
    }

pub returns-clause-told : goal.returns-clause-told
returns-clause-told g c =
    let all = take_all c.loop-made.made-index c.args.batch.now (omega (arith, c.loop-made-test.false)) in
    record {
      file = c.loop-made.invariant.file;
      number = c.loop-made.invariant.number ∙ ap (λ (n : ℕ). c.args.number.now + n) (search rules ∙ sym (length-map c.args.batch.now entry_of));
      counted = subst (λ (es : List MadeEntry). AreCounted (entries_of es) (new_cases es) (made_lines_from c.args.manifest.now.file (c.args.number.now + 1) es) c.args.manifest.now.counts c.loop-made.manifest.counts) all
          c.loop-made.invariant.counted;
    }
