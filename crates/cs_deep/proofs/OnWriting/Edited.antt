-- Edits and bases that were written one after another, and where that stopped.
use Rattle.std.proofs.Common.{◌≡◌, ℕ, ◌+◌, List, [], ◌++◌, append_assoc, length, refl, sym, ap, ◌∙◌, subst, Some, Option}
use Rattle.std.proofs.lemmas.List.{append-nil}
use Rattle.cs_deep.proofs.OnWriting.Counting.{counted_none, counted_then, lines_both, many_outside}
use Rattle.cs_deep.proofs.OnWriting.OneDeep.{one_edit}
use Rattle.cs_manifest.proofs.OnManifest.Zips.{zip_both, zip_split}
use Rattle.cs_deep.specs.Writing.Deep.{EditEntry, IsEditOf, edit_lines, outside}
use Rattle.cs_deep.specs.Writing.Progress.{AreEditsBy, CountsEdits, IsEditsText, edits_by}
use Rattle.cs_deep.specs.Writing.Tally.{IsCounted}
use Rattle.cs_deep.specs.declared.writing.tally.Tally.{Tally}
use Rattle.cs_deep.specs.declared.writing.writing.Deep.{Deep}
use Rattle.cs_io.proofs.Stops.{stopped_behind, stopped_by_cut, stopped_by_memory, stopped_longer}
use Rattle.cs_io.specs.Lines.{IsCutShort, IsWritten}
use Rattle.cs_io.specs.Stops.{HasSomeText, HasText, IsStopped}
use Rattle.cs_io.specs.declared.halt.Halt.TheVariants.{Failed, Memory}
use Rattle.cs_io.specs.declared.sink.Sink as Sink
use Rattle.cs_manifest.specs.Manifest.ByWork.{texts_of}
use Rattle.cs_manifest.proofs.OnManifest.OneManifest.{one_zip}
use Rattle.cs_manifest.proofs.OnOutput.Written.{written_none, written_then}
use Rattle.cs_manifest.specs.Manifest.Manifest.{HasOneText, Texts}
use Rattle.cs_mutate.specs.declared.edit.Edit.{Edit}

-- ---- edits of a base

module _ {S : Type 0} (g : Sink.Ghosts S) (d : Deep) (number : ℕ) (base : List ℕ) (before : Tally) (old : S) where
  -- The first edits were written and counted, and these are left.
  pub record EditsSoFar (left : List Edit) (now : S) (tally : Tally) : Type 0 where
    pub done : List Edit
    pub entries : List EditEntry
    pub split : edits_by d base ≡ done ++ left
    pub are : AreEditsBy d base done entries
    pub written : IsWritten g (edit_lines d.yacc.now number before.deep entries) old now
    pub counted : IsCounted entries before tally

module _ {S : Type 0} (g : Sink.Ghosts S) (d : Deep) (one : (texts : Option Texts) → HasOneText texts) (number : ℕ) (base : List ℕ) (before : Tally) (old : S) where
  abbrev pub Far : List Edit → S → Tally → Type 0
  Far = EditsSoFar g d number base before old

  pub edits_none : (left : List Edit) → left ≡ edits_by d base → Far left old before
  edits_none left all = record { done = []; entries = []; split = sym all; are = tt; written = written_none old; counted = counted_none before }

  -- two lists of entries of the same edits are one
  same_entries : (list : List Edit) (a b : List EditEntry) → AreEditsBy d base list a → AreEditsBy d base list b → a ≡ b
  same_entries list a b ha hb =
      let texts = Some (texts_of d.means.work.now) in
      let lexemes = Some d.means.work.now.lexemes.now in
      one_zip (one_edit texts (one texts) lexemes d.yacc.now.grammar base) list a b ha hb

  -- what follows the first edits in a text
  pub record HasRest (left : List Edit) (entries : List EditEntry) (text : List ℕ) : Type 0 where
    pub others : List EditEntry
    pub are : AreEditsBy d base left others
    pub whole : text ≡ edit_lines d.yacc.now number before.deep entries ++ edit_lines d.yacc.now number (before.deep + length (outside entries)) others

  rest_of : (left : List Edit) (now : S) (tally : Tally) (far : Far left now tally) (text : List ℕ) → IsEditsText d number base before.deep text → HasRest left far.entries text
  rest_of left now tally far text is =
      let R = IsEditOf d.yacc.now.grammar (Some (texts_of d.means.work.now)) (Some d.means.work.now.lexemes.now) base in
      let parts = zip_split R far.done left is.entries (subst (λ (l : List Edit). AreEditsBy d base l is.entries) far.split is.are) in
      let same : parts.front ≡ far.entries = same_entries far.done parts.front far.entries parts.first far.are in
      let whole : is.entries ≡ far.entries ++ parts.behind = parts.whole ∙ ap (λ (l : List EditEntry). l ++ parts.behind) same in
      record {
        others = parts.behind;
        are = parts.second;
        whole = is.lines ∙ ap (λ (l : List EditEntry). edit_lines d.yacc.now number before.deep l) whole ∙ lines_both d.yacc.now number before.deep far.entries parts.behind;
      }

  -- memory ran out behind them
  pub edits_memory : (left : List Edit) (now : S) (tally : Tally) → Far left now tally → HasSomeText g (IsEditsText d number base before.deep) old now Memory
  edits_memory left now tally far text is =
      let rest = rest_of left now tally far text is in
      subst (λ (l : List ℕ). IsStopped g l old now Memory) (sym rest.whole) (stopped_by_memory far.written _)

  -- some more were written and counted
  pub edits_more : (left more rest : List Edit) (mid now : S) (tally after : Tally) (judged : List EditEntry) → (far : Far left mid tally) → left ≡ more ++ rest → AreEditsBy d base more judged
      → IsWritten g (edit_lines d.yacc.now number tally.deep judged) mid now → IsCounted judged tally after → Far rest now after
  edits_more left more rest mid now tally after judged far split are written counted =
      let R = IsEditOf d.yacc.now.grammar (Some (texts_of d.means.work.now)) (Some d.means.work.now.lexemes.now) base in
      let many : tally.deep ≡ before.deep + length (outside far.entries) = far.counted.deep ∙ ap (λ (n : ℕ). before.deep + n) (sym (many_outside far.entries)) in
      let behind = subst (λ (n : ℕ). IsWritten g (edit_lines d.yacc.now number n judged) mid now) many written in
      record {
        done = far.done ++ more;
        entries = far.entries ++ judged;
        split = far.split ∙ ap (λ (l : List Edit). far.done ++ l) split ∙ sym (append_assoc far.done more rest);
        are = zip_both R far.done more far.entries judged far.are are;
        written = subst (λ (l : List ℕ). IsWritten g l old now) (sym (lines_both d.yacc.now number before.deep far.entries judged)) (written_then far.written behind);
        counted = counted_then far.entries judged before tally after far.counted counted;
      }

  -- the writing of some more was cut short
  pub edits_cut : (left more rest : List Edit) (mid now : S) (tally : Tally) (judged : List EditEntry) → (far : Far left mid tally) → left ≡ more ++ rest → AreEditsBy d base more judged
      → IsCutShort g (edit_lines d.yacc.now number tally.deep judged) mid now → HasSomeText g (IsEditsText d number base before.deep) old now Failed
  edits_cut left more rest mid now tally judged far split are cut text is =
      let R = IsEditOf d.yacc.now.grammar (Some (texts_of d.means.work.now)) (Some d.means.work.now.lexemes.now) base in
      let follows = rest_of left mid tally far text is in
      let many : tally.deep ≡ before.deep + length (outside far.entries) = far.counted.deep ∙ ap (λ (n : ℕ). before.deep + n) (sym (many_outside far.entries)) in
      let cut_behind = subst (λ (n : ℕ). IsCutShort g (edit_lines d.yacc.now number n judged) mid now) many cut in
      let parts = zip_split R more rest follows.others (subst (λ (l : List Edit). AreEditsBy d base l follows.others) split follows.are) in
      let same : parts.front ≡ judged = same_entries more parts.front judged parts.first are in
      let others : follows.others ≡ judged ++ parts.behind = parts.whole ∙ ap (λ (l : List EditEntry). l ++ parts.behind) same in
      let at = before.deep + length (outside far.entries) in
      let stopped = subst (λ (l : List ℕ). IsStopped g l mid now Failed)
      (sym (ap (λ (l : List EditEntry). edit_lines d.yacc.now number at l) others ∙ lines_both d.yacc.now number at judged parts.behind))
      (stopped_longer (edit_lines d.yacc.now number (at + length (outside judged)) parts.behind) (stopped_by_cut cut_behind)) in
      subst (λ (l : List ℕ). IsStopped g l old now Failed) (sym follows.whole) (stopped_behind far.written stopped)

  -- all were written and counted
  all_done : (left : List Edit) (now : S) (tally : Tally) → (far : Far left now tally) → left ≡ [] → AreEditsBy d base (edits_by d base) far.entries
  all_done left now tally far none =
      subst (λ (l : List Edit). AreEditsBy d base l far.entries) (sym (far.split ∙ ap (λ (l : List Edit). far.done ++ l) none ∙ append-nil far.done)) far.are

  pub edits_all : (left : List Edit) (now : S) (tally : Tally) → Far left now tally → left ≡ [] → HasText g (IsEditsText d number base before.deep) old now
  edits_all left now tally far none = record {
    text = edit_lines d.yacc.now number before.deep far.entries;
    is = record { entries = far.entries; are = all_done left now tally far none; lines = refl };
    written = far.written;
  }

  pub edits_counted : (left : List Edit) (now : S) (tally : Tally) → Far left now tally → left ≡ [] → CountsEdits d base before tally
  edits_counted left now tally far none entries are =
      subst (λ (l : List EditEntry). IsCounted l before tally) (same_entries (edits_by d base) far.entries entries (all_done left now tally far none) are) far.counted
