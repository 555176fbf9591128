-- What was written is the text, or its front where the sink failed, or nothing where memory ran out.
use Rattle.std.proofs.Common.{List, ℕ, sym, subst}
use Rattle.std.proofs.lemmas.Result.{err_from_is_err_and}
use Rattle.cs_io.proofs.Stops.{stopped_by_cut, stopped_by_memory}
use Rattle.cs_io.specs.Lines.{IsCutShort, IsWritten}
use Rattle.cs_io.specs.Stops.{IsStopped}
use Rattle.cs_io.specs.declared.halt.Halt.TheVariants.{Failed}
use Rattle.cs_manifest.specs.Manifest.ByWork.{texts_of}
use Rattle.cs_manifest.proofs.OnOutput.Written.{written_none}
use Rattle.cs_spell.specs.Telling.Lines.{spell_text}
use Rattle.cs_spell.specs.Writing.Putting.{AreNamed, told_lines_of}
use Rattle.cs_spell.specs.Telling.Seen.{all_told}
use Rattle.cs_spell.specs.Telling.Spelling.{making_with}
use Rattle.cs_spell.specs.declared.telling.told.Told.{Told}
use Rattle.cs_spell.proofs.OnTelling.Naming.{named_all}
use Rattle.cs_spell.proofs.OnWriting.Writing.{asked_of}
use Rattle.cs_spell.proofs.writing.writing.tell_judged.Goals as goal

pub returns-in_err-lexical-clause-text : goal.returns-in_err-lexical-clause-text
returns-in_err-lexical-clause-text g c =
    let p = err_from_is_err_and c.from_residual.result c.from_residual.ensures.1 in
    rw (p.1, p.2) (λ text is. stopped_by_memory (written_none c.args.sink.now) text)

pub returns-in_err-told-clause-text : goal.returns-in_err-told-clause-text
returns-in_err-told-clause-text g c =
    let p = err_from_is_err_and c.from_residual-in_err-told.result c.from_residual-in_err-told.ensures.1 in
    rw (p.1, p.2) (λ text is. stopped_by_memory (written_none c.args.sink.now) text)

pub write_lines-requires-clause-named : goal.write_lines-requires-clause-named
write_lines-requires-clause-named g c =
    let s = c.args.spelled.now in
    let its = c.token_names-named.ensures.named in
    let m = making_with s.file.now (texts_of s.work.now) s.work.now.lexemes.now c.args.judged.now in
    subst (λ (list : List Told). AreNamed s.file.now list) (sym c.deref.ensures.value)
    (named_all m its.grammar its.tokens c.requires.few c.in_ok-told.told.items c.in_ok-told.ensures)

pub returns-in_err-write_lines-clause-text : goal.returns-in_err-write_lines-clause-text
returns-in_err-write_lines-clause-text g c =
    let p = err_from_is_err_and c.from_residual-in_err-write_lines.result c.from_residual-in_err-write_lines.ensures.1 in
    let s = c.args.spelled.now in
    let told = all_told c.in_ok-told.told.items in
    let mine = asked_of s c.requires.ready c.args.judged.now c.requires.judged told c.in_ok-told.ensures in
    let cut = subst (λ (list : List Told). IsCutShort g.S.Sink (told_lines_of s.file.now list) c.args.sink.now c.write_lines.new.sink) c.deref.ensures.value c.in_err-write_lines.ensures in
    rw (p.1, p.2) (λ text is.
    subst (λ (l : List ℕ). IsStopped g.S.Sink l c.args.sink.now c.write_lines.new.sink Failed)
    (c.one_spelling.ensures s.file.now (texts_of s.work.now) s.weigh (spell_text s.file.now told) text mine is) (stopped_by_cut cut))

pub returns-clause-text : goal.returns-clause-text
returns-clause-text g c =
    let s = c.args.spelled.now in
    let told = all_told c.in_ok-told.told.items in
    record {
      text = spell_text s.file.now told;
      is = asked_of s c.requires.ready c.args.judged.now c.requires.judged told c.in_ok-told.ensures;
      written = subst (λ (list : List Told). IsWritten g.S.Sink (told_lines_of s.file.now list) c.args.sink.now c.write_lines.new.sink) c.deref.ensures.value c.in_ok-write_lines.ensures;
    }
