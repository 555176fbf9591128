-- Each negative that the search finds next is made, numbered, written and counted, and fewer edits are left.
use Rattle.std.proofs.Common.{◌+◌, ◌≤◌, List, ℕ, length, refl, subst, sym, ap, ◌∙◌, arith}
use Rattle.std.specs.Prelude.{All, IfSome, Option, Some}
use Rattle.std.proofs.lemmas.Result.{err_from_is_err_and}
use Rattle.cs_grammar.specs.Grammar.{IsNumberOf, PlainGrammar}
use Rattle.cs_io.specs.Faults.{greatest}
use Rattle.cs_io.specs.Lines.{IsCutShort, IsWritten}
use Rattle.cs_manifest.specs.Manifest.ByWork.{texts_of}
use Rattle.cs_manifest.specs.Manifest.Manifest.{negative_entry_lines}
use Rattle.cs_manifest.specs.Manifest.Named.{IsNamedNegative}
use Rattle.cs_manifest.specs.Writer.Progress.{Progress}
use Rattle.cs_manifest.specs.declared.manifest.counts.Counts.{Counts}
use Rattle.cs_writing.specs.Mutants.Makers.{Making}
use Rattle.cs_writing.specs.Mutants.Mutants.{behind_negative}
use Rattle.cs_writing.proofs.OnMutants.Naming.{named_negative}
use Rattle.cs_writing.proofs.OnMutants.Taking.{takes_edited}
use Rattle.cs_mutate.specs.Edit.{Fits, IsPlaced, edited}
use Rattle.cs_mutate.specs.Negatives.{FitsBase, IsNegative}
use Rattle.cs_mutate.specs.Keeping.{FindsNextKept, TellsFound}
use Rattle.cs_mutate.specs.declared.negative.Negative.{Negative}
use Rattle.cs_texts.specs.Work.Renders.{TakesTokens}
use Rattle.cs_yacc.specs.Reading.File.{File}
use Rattle.cs_io.specs.declared.halt.Halt.TheVariants.{Failed, Memory}
use Rattle.cs_writing.proofs.OnWriting.Negatives.{fits_first, made_counted, negative_first, negatives_all, negatives_cut, negatives_memory, negatives_more, negatives_none, negatives_told, told_by}
use Rattle.cs_writing.proofs.OnWriting.Parts.{made_stop, made_text}
use Rattle.cs_writing.proofs.OnWriting.Tallies.{counted_negative}
use Rattle.cs_writing.proofs.writing.mutants.write_found.Given.{Over}
use Rattle.cs_writing.proofs.writing.mutants.write_found.Goals as goal
use Rattle.cs_writing.proofs.writing.mutants.write_found.Goals.{In-Some}

-- ---- the negative that was found

next_is : (g : Over) (c : In-Some g) → FindsNextKept c.negatives.keeper c.negatives.search (Some c.in-Some.negative) c.next.new.search
next_is g c = subst (λ (f : Option Negative). FindsNextKept c.negatives.keeper c.negatives.search f c.next.new.search) c.in-Some.is c.in_ok-next.ensures.found

told_is : (g : Over) (c : In-Some g) → TellsFound c.negatives.keeper (Some c.in-Some.negative) c.next.new.self
told_is g c = subst (λ (f : Option Negative). TellsFound c.negatives.keeper f c.next.new.self) c.in-Some.is c.in_ok-next.ensures.told

fits : (g : Over) (c : In-Some g) → FitsBase c.args.search.now c.in-Some.negative.edit
fits g c =
    let left = c.negatives.search in
    let here = subst (λ (f : Option Negative). IfSome f (λ x. FitsBase left x.edit)) c.in-Some.is c.in_ok-next.ensures.fits in
    fits_first c.args.search.now left c.in-Some.negative c.negatives.invariant.grammar c.negatives.invariant.base here

fewer : (g : Over) (c : In-Some g) → length c.next.new.search.edits + 1 ≤ length c.negatives.search.edits
fewer g c = subst (λ (f : Option Negative). IfSome f (λ _. length c.next.new.search.edits + 1 ≤ length c.negatives.search.edits)) c.in-Some.is c.in_ok-next.ensures.fewer

-- so that numbers don't end
few : (g : Over) (c : In-Some g) → c.negatives.manifest.counts.negatives + 1 ≤ greatest
few g c = omega (arith, fewer g c, c.negatives.invariant.few, c.requires.few, c.requires.number)

-- ---- answers

pub negatives-init : goal.negatives-init
negatives-init g c = record {
  file = refl;
  making = refl;
  number = c.requires.number;
  first = refl;
  tokens = refl;
  grammar = refl;
  base = refl;
  few = omega arith;
  lent = refl;
  so_far = λ before told.
      negatives_none c.args.manifest.now.file c.args.made.now.making.number c.args.made.now.making.tools.work c.args.keeper.now.first before c.args.search.now c.args.keeper.now c.args.manifest.now.counts c.args.sink.now refl told;
}

pub next-requires : goal.next-requires
next-requires g c = record {
  tokens = ap (λ (h : PlainGrammar). h.tokens) c.negatives.invariant.grammar ∙ sym c.requires.keeper ∙ sym c.negatives.invariant.tokens;
}

pub negatives-smaller : goal.negatives-smaller
negatives-smaller g c = omega (arith, fewer g (goal.at.negatives-smaller g c).In-Some)

-- memory ran out before the next negative was found, or made
pub returns-in_err-next-clause-text : goal.returns-in_err-next-clause-text
returns-in_err-next-clause-text g c = λ before told.
    let p = err_from_is_err_and c.from_residual.result c.from_residual.ensures.1 in
    let making = c.args.made.now.making in
    let most = c.args.keeper.now.first in
    let stopped = negatives_memory c.args.manifest.now.file making.number making.tools.work most before c.args.search.now c.negatives.search c.negatives.keeper c.args.sink.now c.negatives.sink c.args.manifest.now.counts c.negatives.manifest.counts
    (c.negatives.invariant.so_far before told) (c.one_text.ensures (Some (texts_of making.tools.work))) in
    rw (p.1, p.2) (made_stop c.args.manifest.now making most before c.args.search.now c.args.sink.now c.negatives.sink Memory stopped)

pub returns-in_err-make-in-Some-clause-text : goal.returns-in_err-make-in-Some-clause-text
returns-in_err-make-in-Some-clause-text g c = λ before told.
    let p = err_from_is_err_and c.from_residual-in_err-make-in-Some.result c.from_residual-in_err-make-in-Some.ensures.1 in
    let making = c.args.made.now.making in
    let most = c.args.keeper.now.first in
    let stopped = negatives_memory c.args.manifest.now.file making.number making.tools.work most before c.args.search.now c.negatives.search c.negatives.keeper c.args.sink.now c.negatives.sink c.args.manifest.now.counts c.negatives.manifest.counts
    (c.negatives.invariant.so_far before told) (c.one_text.ensures (Some (texts_of making.tools.work))) in
    rw (p.1, p.2) (made_stop c.args.manifest.now making most before c.args.search.now c.args.sink.now c.negatives.sink Memory stopped)

pub returns-in-None-clause-text : goal.returns-in-None-clause-text
returns-in-None-clause-text g c = λ before told.
    let is = subst (λ (f : Option Negative). FindsNextKept c.negatives.keeper c.negatives.search f c.next.new.search) c.in-None.is c.in_ok-next.ensures.found in
    let making = c.args.made.now.making in
    let most = c.args.keeper.now.first in
    made_text c.args.manifest.now making most before c.args.search.now
    (negatives_all c.args.manifest.now.file making.number making.tools.work most before c.args.search.now c.negatives.search c.negatives.keeper c.args.sink.now c.negatives.sink c.args.manifest.now.counts c.negatives.manifest.counts
    (c.negatives.invariant.so_far before told) c.next.new.search is)

pub returns-in-None-clause-adds : goal.returns-in-None-clause-adds
returns-in-None-clause-adds g c = λ before told.
    let is = subst (λ (f : Option Negative). FindsNextKept c.negatives.keeper c.negatives.search f c.next.new.search) c.in-None.is c.in_ok-next.ensures.found in
    let making = c.args.made.now.making in
    let most = c.args.keeper.now.first in
    made_counted c.args.manifest.now c.negatives.manifest making most before c.args.search.now (c.one_text.ensures (Some (texts_of making.tools.work)))
    (negatives_all c.args.manifest.now.file making.number making.tools.work most before c.args.search.now c.negatives.search c.negatives.keeper c.args.sink.now c.negatives.sink c.args.manifest.now.counts c.negatives.manifest.counts
    (c.negatives.invariant.so_far before told) c.next.new.search is)

pub returns-in-None-clause-told : goal.returns-in-None-clause-told
returns-in-None-clause-told g c = λ before told.
    let is = subst (λ (f : Option Negative). FindsNextKept c.negatives.keeper c.negatives.search f c.next.new.search) c.in-None.is c.in_ok-next.ensures.found in
    let tells = subst (λ (f : Option Negative). TellsFound c.negatives.keeper f c.next.new.self) c.in-None.is c.in_ok-next.ensures.told in
    let making = c.args.made.now.making in
    negatives_told c.args.manifest.now.file making.number making.tools.work c.args.keeper.now.first before c.args.search.now c.negatives.search c.negatives.keeper c.args.sink.now c.negatives.sink c.args.manifest.now.counts c.negatives.manifest.counts
    (c.negatives.invariant.so_far before told) (c.one_text.ensures (Some (texts_of making.tools.work))) c.next.new.search c.next.new.self is tells

pub make-requires-clause-placed : goal.make-requires-clause-placed
make-requires-clause-placed g c =
    let n = c.in-Some.negative in
    let placed = (fits g (goal.at.make-requires-clause-placed g c).In-Some).0 in
    subst (λ (k : Making). IsPlaced (length k.base) n.edit) (sym c.negatives.invariant.making) (subst (λ (w : List ℕ). IsPlaced (length w) n.edit) c.requires.base placed)

pub make-requires-clause-taken : goal.make-requires-clause-taken
make-requires-clause-taken g c =
    let n = c.in-Some.negative in
    let search = c.args.search.now in
    let making = c.args.made.now.making in
    let fits_base = subst (λ (w : List ℕ). Fits (length w) search.grammar.tokens n.edit) c.requires.base (fits g (goal.at.make-requires-clause-taken g c).In-Some) in
    let taken = takes_edited making.tools.work search.grammar.tokens making.base c.requires.work c.requires.short c.requires.tokens n.edit fits_base in
    subst (λ (k : Making). TakesTokens k.tools.work (edited k.base n.edit)) (sym c.negatives.invariant.making) taken

pub make-requires-clause-named : goal.make-requires-clause-named
make-requires-clause-named g c =
    let at = (goal.at.make-requires-clause-named g c).In-Some in
    let n = c.in-Some.negative in
    let left = c.negatives.search in
    let search = c.args.search.now in
    let tokens = subst (λ (w : List ℕ). All (IsNumberOf search.grammar.tokens) w) (sym c.requires.base) c.requires.tokens in
    let here = subst (λ (f : Option Negative). IfSome f (IsNegative left.grammar left.base)) c.in-Some.is c.in_ok-next.ensures.negative in
    let negative = negative_first search left n c.negatives.invariant.grammar c.negatives.invariant.base here in
    let named = named_negative c.args.manifest.now.file search.grammar search.base c.requires.names tokens n (fits g at) negative in
    subst (λ (k : Making). IsNamedNegative k.tools.file n) (sym c.negatives.invariant.making) (subst (λ (f : File). IsNamedNegative f n) c.requires.file named)

pub advance-requires : goal.advance-requires
advance-requires g c = omega (arith, few g (goal.at.advance-requires g c).In-Some, c.negatives.invariant.number)

pub write-requires-clause-made : goal.write-requires-clause-made
write-requires-clause-made g c = rw c.in_ok-make-in-Some.ensures.made refl

pub write-requires-clause-file : goal.write-requires-clause-file
write-requires-clause-file g c =
    c.negatives.invariant.file ∙ c.requires.file ∙ sym (ap (λ (m : Making). m.tools.file) (c.make.ensures.making ∙ c.negatives.invariant.making))

pub returns-in_err-write-in-Some-clause-text : goal.returns-in_err-write-in-Some-clause-text
returns-in_err-write-in-Some-clause-text g c = λ before tells.
    let p = err_from_is_err_and c.from_residual-in_err-write-in-Some.result c.from_residual-in_err-write-in-Some.ensures.1 in
    let at = (goal.at.returns-in_err-write-in-Some-clause-text g c).In-Some in
    let n = c.in-Some.negative in
    let search = c.args.search.now in
    let making = c.args.made.now.making in
    let most = c.args.keeper.now.first in
    let file = c.args.manifest.now.file in
    let counts = c.negatives.manifest.counts in
    let w = c.in_err-write-in-Some.ensures n c.in_ok-make-in-Some.ensures.made in
    let told = told_by c.make.new.self.making making file search n w.told c.advance.new.self counts.negatives (c.make.ensures.making ∙ c.negatives.invariant.making) c.requires.file c.requires.base
    (c.advance.ensures ∙ ap (λ (k : ℕ). k + 1) c.negatives.invariant.number) w.of in
    let stopped = negatives_cut file making.number making.tools.work most before search c.negatives.search c.negatives.keeper c.args.sink.now c.negatives.sink c.args.manifest.now.counts counts (c.negatives.invariant.so_far before tells)
    n w.told c.next.new.search c.next.new.self c.write.new.sink (next_is g at) told.0 c.next.ensures.grammar c.next.ensures.base c.next.ensures.first (told_is g at) (c.one_text.ensures (Some (texts_of making.tools.work)))
    (subst (λ (l : List ℕ). IsCutShort g.S.Sink l c.negatives.sink c.write.new.sink) told.1 w.lines) in
    rw (p.1, p.2) (made_stop c.args.manifest.now making most before search c.args.sink.now c.write.new.sink Failed stopped)

pub negatives-preserved : goal.negatives-preserved
negatives-preserved g c =
    let at = (goal.at.negatives-preserved g c).In-Some in
    let n = c.in-Some.negative in
    let search = c.args.search.now in
    let making = c.args.made.now.making in
    let most = c.args.keeper.now.first in
    let file = c.args.manifest.now.file in
    let counts = c.negatives.manifest.counts in
    let after = c.write.new.manifest.counts in
    let same = c.make.ensures.making ∙ c.negatives.invariant.making in
    let number = c.advance.ensures ∙ ap (λ (k : ℕ). k + 1) c.negatives.invariant.number in
    let w = c.in_ok-write-in-Some.ensures n c.in_ok-make-in-Some.ensures.made in
    let told = told_by c.make.new.self.making making file search n w.told c.advance.new.self counts.negatives same c.requires.file c.requires.base number w.of in
    let lines = negative_entry_lines file making.number search.base (counts.negatives + 1) w.told in
    let counted = counted_negative counts after lines (few g at) (ap (λ (q : Progress). q.counts) (w.counts ∙ ap (behind_negative c.negatives.manifest) told.1)) in
    record {
      file = ap (λ (q : Progress). q.file) w.counts ∙ c.negatives.invariant.file;
      making = same;
      number = number ∙ sym (ap (λ (k : Counts). k.negatives) counted.same);
      first = c.next.ensures.first ∙ c.negatives.invariant.first;
      tokens = c.next.ensures.tokens ∙ c.negatives.invariant.tokens;
      grammar = c.next.ensures.grammar ∙ c.negatives.invariant.grammar;
      base = c.next.ensures.base ∙ c.negatives.invariant.base;
      few = omega (arith, fewer g at, c.negatives.invariant.few, ap (λ (k : Counts). k.negatives) counted.same);
      lent = w.lines.lent ∙ c.negatives.invariant.lent;
      so_far = λ before tells.
          negatives_more file making.number making.tools.work most before search c.negatives.search c.negatives.keeper c.args.sink.now c.negatives.sink c.args.manifest.now.counts counts (c.negatives.invariant.so_far before tells) n w.told
          c.next.new.search c.next.new.self c.write.new.sink (next_is g at) told.0 c.next.ensures.grammar c.next.ensures.base c.next.ensures.first (told_is g at) after
          (subst (λ (l : List ℕ). IsWritten g.S.Sink l c.negatives.sink c.write.new.sink) told.1 w.lines) counted;
    }

pub returns-in_err-write-in-Some-clause-file : goal.returns-in_err-write-in-Some-clause-file
returns-in_err-write-in-Some-clause-file g c =
    let w = c.in_err-write-in-Some.ensures c.in-Some.negative c.in_ok-make-in-Some.ensures.made in
    ap (λ (q : Progress). q.file) w.counts ∙ c.negatives.invariant.file

pub returns-in_err-write-in-Some-clause-lent : goal.returns-in_err-write-in-Some-clause-lent
returns-in_err-write-in-Some-clause-lent g c =
    let w = c.in_err-write-in-Some.ensures c.in-Some.negative c.in_ok-make-in-Some.ensures.made in
    w.lines.lent ∙ c.negatives.invariant.lent
