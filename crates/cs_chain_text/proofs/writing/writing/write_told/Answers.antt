-- What the workers tell is an entry of each chain, in the order of the batch.
use Rattle.std.proofs.Common.{List, ℕ, length, refl, subst, sym}
use Rattle.std.specs.Prelude.{All}
use Rattle.std.proofs.lemmas.Result.{err_from_is_err_and}
use Rattle.cs_io.specs.Lines.{IsCutShort, IsWritten}
use Rattle.cs_chain_text.specs.Entries.Text.{ChainEntry, IsEntryOf}
use Rattle.cs_chain_text.specs.Progress.{AreEntries, CanCount, IsCounted, IsNamedEntry, lexemes_by, lines_of, texts_by, weighed_in}
use Rattle.cs_chain_text.proofs.OnWriting.Batches.{told_are}
use Rattle.cs_chain_text.proofs.OnEntries.Telling.{named_entries}
use Rattle.cs_manifest.proofs.OnManifest.Zips.{length_zip}
use Rattle.cs_chain_text.proofs.writing.writing.write_told.Given.{Over}
use Rattle.cs_chain_text.proofs.writing.writing.write_told.Goals as goal
use Rattle.cs_chain_text.proofs.writing.writing.write_told.Goals.{In_ok-entries}

-- what was told of them
told : (g : Over) (c : In_ok-entries g) → AreEntries c.args.telling.now.chained c.args.batch.now c.in_ok-entries.entries.items
told g c = told_are c.args.telling.now.chained c.args.telling.now.work c.requires.work c.args.batch.now c.in_ok-entries.entries.items c.in_ok-entries.ensures

pub tell_batch-requires-clause-can : goal.tell_batch-requires-clause-can
tell_batch-requires-clause-can g c = λ κs met. c.requires.work.can

pub write_entries-requires-clause-named : goal.write_entries-requires-clause-named
write_entries-requires-clause-named g c =
    let at = (goal.at.write_entries-requires-clause-named g c).In_ok-entries in
    let d = c.args.telling.now.chained in
    subst (λ (l : List ChainEntry). All (IsNamedEntry d.yacc.now) l) (sym c.deref.ensures.value)
    (named_entries d.yacc.now c.grammar-named.ensures.named (texts_by d.work) (lexemes_by d.work) (weighed_in d) refl c.args.batch.now c.in_ok-entries.entries.items (told g at))

pub write_entries-requires-clause-few : goal.write_entries-requires-clause-few
write_entries-requires-clause-few g c =
    let at = (goal.at.write_entries-requires-clause-few g c).In_ok-entries in
    let d = c.args.telling.now.chained in
    let many = length_zip (IsEntryOf (weighed_in d) (texts_by d.work) (lexemes_by d.work)) c.args.batch.now c.in_ok-entries.entries.items (told g at) in
    let own = subst (λ (n : ℕ). CanCount c.args.tally.now n) (sym many) c.requires.count in
    subst (λ (l : List ChainEntry). CanCount c.args.tally.now (length l)) (sym c.deref.ensures.value) own

-- memory ran out
pub returns-in_err-entries-clause-put : goal.returns-in_err-entries-clause-put
returns-in_err-entries-clause-put g c =
    let p = err_from_is_err_and c.from_residual.result c.from_residual.ensures.1 in rw (p.1, p.2) (refl {a = c.args.sink.now})

-- a write failed
pub returns-in_err-write_entries-clause-put : goal.returns-in_err-write_entries-clause-put
returns-in_err-write_entries-clause-put g c =
    let p = err_from_is_err_and c.from_residual-in_err-write_entries.result c.from_residual-in_err-write_entries.ensures.1 in
    let at = (goal.at.returns-in_err-write_entries-clause-put g c).In_ok-entries in
    let d = c.args.telling.now.chained in
    let cut = subst (λ (l : List ChainEntry). IsCutShort g.S.Sink (lines_of d.yacc.now c.args.tally.now l) c.args.sink.now c.write_entries.new.sink) c.deref.ensures.value c.in_err-write_entries.ensures.text in
    rw (p.1, p.2) (record { entries = c.in_ok-entries.entries.items; are = told g at; cut = cut })

pub returns-clause-put : goal.returns-clause-put
returns-clause-put g c =
    let at = (goal.at.returns-clause-put g c).In_ok-entries in
    let d = c.args.telling.now.chained in
    let e = c.in_ok-write_entries.ensures in
    record {
      entries = c.in_ok-entries.entries.items;
      are = told g at;
      written = subst (λ (l : List ChainEntry). IsWritten g.S.Sink (lines_of d.yacc.now c.args.tally.now l) c.args.sink.now c.write_entries.new.sink) c.deref.ensures.value e.text;
      counted = subst (λ (l : List ChainEntry). IsCounted l c.args.tally.now c.write_entries.new.tally) c.deref.ensures.value e.counted;
    }
