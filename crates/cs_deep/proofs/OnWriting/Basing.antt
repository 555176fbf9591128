-- Bases that were written one after another, and where that stopped.
use Rattle.std.proofs.Common.{◌≡◌, ◌≤◌, ℕ, ◌+◌, List, [], ◌∷◌, ◌++◌, append_assoc, length, length-append, length-drop, drop, refl, sym, ap, ◌∙◌, subst, arith, Some, Option}
use Rattle.std.proofs.lemmas.List.{append-nil}
use Rattle.std.proofs.lemmas.Grind.{flat_map-append}
use Rattle.std.proofs.lemmas.List.Elements.{filter-append}
use Rattle.cs_deep.proofs.OnWriting.Counting.{counted_none, counted_then, many_outside}
use Rattle.cs_deep.proofs.OnWriting.OneDeep.{one_deep_base}
use Rattle.cs_deep.proofs.OnWriting.Zips.{zip_first}
use Rattle.cs_manifest.proofs.OnManifest.Zips.{length_zip, zip_both, zip_split}
use Rattle.cs_deep.specs.Writing.Deep.{DeepBase, EditEntry, IsDeepBaseOf, all_edits, deep_base_lines, edit_lines, outside}
use Rattle.cs_deep.specs.Writing.Progress.{AreDeepBases, CountsBases, CountsEdits, IsBasesText, IsEditsText, choice_of}
use Rattle.cs_deep.specs.Writing.Tally.{IsCounted, no_edits}
use Rattle.cs_deep.specs.declared.writing.tally.Tally.{Tally}
use Rattle.cs_deep.specs.declared.writing.writing.Deep.{Deep}
use Rattle.cs_io.proofs.Stops.{stopped_behind, stopped_by_cut, stopped_longer}
use Rattle.cs_io.specs.Lines.{IsCutShort, IsWritten}
use Rattle.cs_io.specs.Stops.{HasSomeText, HasText, IsStopped}
use Rattle.cs_io.specs.declared.halt.Halt.{Halt}
use Rattle.cs_io.specs.declared.halt.Halt.TheVariants.{Failed}
use Rattle.cs_io.specs.declared.sink.Sink as Sink
use Rattle.cs_manifest.specs.Manifest.ByWork.{texts_of}
use Rattle.cs_manifest.proofs.OnManifest.OneManifest.{one_zip}
use Rattle.cs_manifest.proofs.OnOutput.Written.{written_none, written_then}
use Rattle.cs_manifest.specs.Manifest.Lines.{base_line}
use Rattle.cs_manifest.specs.Manifest.Manifest.{HasOneText, Texts}
use Rattle.cs_yacc.specs.Reading.File.{File}

-- the lines of two lists of bases, one behind the other
pub bases_both : (file : File) (many number : ℕ) (xs ys : List DeepBase)
    → deep_base_lines file many number (xs ++ ys) ≡ deep_base_lines file many number xs ++ deep_base_lines file (many + length (outside (all_edits xs))) (number + length xs) ys
bases_both file many number [] ys =
    let m : many ≡ many + 0 = omega arith in
    let n : number ≡ number + 0 = omega arith in
    ap (λ (k : ℕ). deep_base_lines file k number ys) m ∙ ap (λ (k : ℕ). deep_base_lines file (many + 0) k ys) n
bases_both file many number (x ∷ xs) ys =
    let here = base_line (number + 1) x.goal ++ edit_lines file (number + 1) many x.edits in
    let at = many + length (outside x.edits) in
    let both : length (outside (x.edits ++ all_edits xs)) ≡ length (outside x.edits) + length (outside (all_edits xs)) =
    ap (λ (l : List EditEntry). length l) (filter-append _ x.edits (all_edits xs)) ∙ length-append (outside x.edits) (outside (all_edits xs)) in
    let m : at + length (outside (all_edits xs)) ≡ many + length (outside (x.edits ++ all_edits xs)) = omega (arith, both) in
    let n : number + 1 + length xs ≡ number + length (x ∷ xs) = omega arith in
    ap (λ (l : List ℕ). here ++ l)
    (bases_both file at (number + 1) xs ys
    ∙ ap (λ (k : ℕ). deep_base_lines file at (number + 1) xs ++ deep_base_lines file k (number + 1 + length xs) ys) m
    ∙ ap (λ (k : ℕ). deep_base_lines file at (number + 1) xs ++ deep_base_lines file (many + length (outside (x.edits ++ all_edits xs))) k ys) n)
    ∙ sym (append_assoc here (deep_base_lines file at (number + 1) xs) (deep_base_lines file (many + length (outside (x.edits ++ all_edits xs))) (number + length (x ∷ xs)) ys))

all_push : (xs : List DeepBase) (next : DeepBase) → all_edits (xs ++ next ∷ []) ≡ all_edits xs ++ next.edits
all_push xs next = flat_map-append (λ (b : DeepBase). b.edits) xs (next ∷ []) ∙ ap (λ (l : List EditEntry). all_edits xs ++ l) (append-nil next.edits)

module _ {S : Type 0} (g : Sink.Ghosts S) (d : Deep) (list : List (ℕ × List ℕ)) (old : S) where
  -- The first bases were written, and their edits counted, and these are left.
  pub record BasesSoFar (left : List (ℕ × List ℕ)) (now : S) (tally : Tally) : Type 0 where
    pub done : List (ℕ × List ℕ)
    pub bases : List DeepBase
    pub split : list ≡ done ++ left
    pub are : AreDeepBases d done bases
    pub written : IsWritten g (deep_base_lines d.yacc.now 0 0 bases) old now
    pub counted : IsCounted (all_edits bases) no_edits tally

module _ {S : Type 0} (g : Sink.Ghosts S) (d : Deep) (one : (texts : Option Texts) → HasOneText texts) (list : List (ℕ × List ℕ)) (old : S) where
  abbrev Of : ℕ × List ℕ → DeepBase → Type 0
  Of = IsDeepBaseOf d.yacc.now.grammar (choice_of d) (Some d.means.work.now.lexemes.now)

  abbrev pub Far : List (ℕ × List ℕ) → S → Tally → Type 0
  Far = BasesSoFar g d list old

  pub bases_none : (left : List (ℕ × List ℕ)) (tally : Tally) → left ≡ list → tally ≡ no_edits → Far left old tally
  bases_none left tally all none = record { done = []; bases = []; split = sym all; are = tt; written = written_none old; counted = subst (λ (t : Tally). IsCounted [] no_edits t) (sym none) (counted_none no_edits) }

  same_bases : (some : List (ℕ × List ℕ)) (a b : List DeepBase) → AreDeepBases d some a → AreDeepBases d some b → a ≡ b
  same_bases some a b ha hb =
      let texts = Some (texts_of d.means.work.now) in
      one_zip (one_deep_base (choice_of d) (one texts) (Some d.means.work.now.lexemes.now) d.yacc.now.grammar) some a b ha hb

  module _ (base : ℕ × List ℕ) (rest left : List (ℕ × List ℕ)) (left_is : left ≡ base ∷ rest) (mid : S) (tally : Tally) (far : Far left mid tally) (i : ℕ) (at : length far.done ≡ i) where
    split : list ≡ far.done ++ (base ∷ rest)
    split = far.split ∙ ap (λ (l : List (ℕ × List ℕ)). far.done ++ l) left_is

    many : tally.deep ≡ 0 + length (outside (all_edits far.bases))
    many = far.counted.deep ∙ ap (λ (n : ℕ). 0 + n) (sym (many_outside (all_edits far.bases)))

    numbered : 0 + length far.bases ≡ i
    numbered = omega (arith, at, length_zip Of far.done far.bases far.are)

    -- the lines of the base and of what follows it
    behind : DeepBase → List DeepBase → List ℕ
    behind next others = deep_base_lines d.yacc.now (0 + length (outside (all_edits far.bases))) (0 + length far.bases) (next ∷ others)

    -- what follows the first bases in a text
    pub record HasNext (text : List ℕ) : Type 0 where
      pub next : DeepBase
      pub of : Of base next
      pub more : List ℕ
      pub whole : text ≡ deep_base_lines d.yacc.now 0 0 far.bases ++ ((base_line (i + 1) base.0 ++ edit_lines d.yacc.now (i + 1) tally.deep next.edits) ++ more)

    next_of : (text : List ℕ) → IsBasesText d list text → HasNext text
    next_of text is =
        let parts = zip_split Of far.done (base ∷ rest) is.bases (subst (λ (l : List (ℕ × List ℕ)). AreDeepBases d l is.bases) split is.are) in
        let same : parts.front ≡ far.bases = same_bases far.done parts.front far.bases parts.first far.are in
        let first = zip_first Of base rest parts.behind parts.second in
        let next = first.next in
        let whole : is.bases ≡ far.bases ++ next ∷ first.rest =
        parts.whole ∙ ap (λ (l : List DeepBase). l ++ parts.behind) same ∙ ap (λ (l : List DeepBase). far.bases ++ l) first.whole in
        let front = deep_base_lines d.yacc.now 0 0 far.bases in
        let k = 0 + length (outside (all_edits far.bases)) in
        let n = 0 + length far.bases in
        let more = λ (m : ℕ) (j : ℕ). deep_base_lines d.yacc.now (m + length (outside next.edits)) (j + 1) first.rest in
        let shape = λ (m : ℕ) (j : ℕ) (goal : ℕ). front ++ ((base_line (j + 1) goal ++ edit_lines d.yacc.now (j + 1) m next.edits) ++ more m j) in
        record {
          next = next;
          of = first.first;
          more = more tally.deep i;
          whole = is.lines ∙ ap (λ (l : List DeepBase). deep_base_lines d.yacc.now 0 0 l) whole
              ∙ bases_both d.yacc.now 0 0 far.bases (next ∷ first.rest)
              ∙ ap (λ (m : ℕ). shape m n next.goal) (sym many)
              ∙ ap (λ (j : ℕ). shape tally.deep j next.goal) numbered
              ∙ ap (λ (goal : ℕ). shape tally.deep i goal) first.first.goal;
        }

    -- the base's own line was cut short
    pub opening_cut : (now : S) → IsCutShort g (base_line (i + 1) base.0) mid now → HasSomeText g (IsBasesText d list) old now Failed
    opening_cut now cut text is =
        let next = next_of text is in
        let edits = edit_lines d.yacc.now (i + 1) tally.deep next.next.edits in
        subst (λ (l : List ℕ). IsStopped g l old now Failed) (sym next.whole)
        (stopped_behind far.written (stopped_longer next.more (stopped_longer edits (stopped_by_cut cut))))

    -- the writing of its edits stopped
    pub edits_stop : (begun now : S) (halt : Halt) → IsWritten g (base_line (i + 1) base.0) mid begun
        → HasSomeText g (IsEditsText d (i + 1) base.1 tally.deep) begun now halt → HasSomeText g (IsBasesText d list) old now halt
    edits_stop begun now halt opened stops text is =
        let next = next_of text is in
        let lines = edit_lines d.yacc.now (i + 1) tally.deep next.next.edits in
        let stopped = stops lines (record { entries = next.next.edits; are = next.of.edits; lines = refl }) in
        subst (λ (l : List ℕ). IsStopped g l old now halt) (sym next.whole)
        (stopped_behind far.written (stopped_longer next.more (stopped_behind opened stopped)))

    -- the base was written
    pub base_more : (begun now : S) (after : Tally) → IsWritten g (base_line (i + 1) base.0) mid begun → HasText g (IsEditsText d (i + 1) base.1 tally.deep) begun now
        → CountsEdits d base.1 tally after → Far rest now after
    base_more begun now after opened text counts =
        let is = text.is in
        let next : DeepBase = record { goal = base.0; edits = is.entries } in
        let front = deep_base_lines d.yacc.now 0 0 far.bases in
        let shape = λ (m : ℕ) (j : ℕ). front ++ (base_line (j + 1) base.0 ++ edit_lines d.yacc.now (j + 1) m is.entries) in
        let grown : front ++ (base_line (i + 1) base.0 ++ text.text) ≡ deep_base_lines d.yacc.now 0 0 (far.bases ++ next ∷ []) =
        ap (λ (l : List ℕ). front ++ (base_line (i + 1) base.0 ++ l)) is.lines
        ∙ ap (λ (j : ℕ). shape tally.deep j) (sym numbered)
        ∙ ap (λ (m : ℕ). shape m (0 + length far.bases)) many
        ∙ ap (λ (l : List ℕ). front ++ l) (sym (append-nil (base_line (0 + length far.bases + 1) base.0 ++ edit_lines d.yacc.now (0 + length far.bases + 1) (0 + length (outside (all_edits far.bases))) is.entries)))
        ∙ sym (bases_both d.yacc.now 0 0 far.bases (next ∷ [])) in
        let all : all_edits (far.bases ++ next ∷ []) ≡ all_edits far.bases ++ is.entries = all_push far.bases next in
        record {
          done = far.done ++ base ∷ [];
          bases = far.bases ++ next ∷ [];
          split = split ∙ sym (append_assoc far.done (base ∷ []) rest);
          are = zip_both Of far.done (base ∷ []) far.bases (next ∷ []) far.are (record { goal = refl; edits = is.are }, tt);
          written = subst (λ (l : List ℕ). IsWritten g l old now) grown (written_then far.written (written_then opened text.written));
          counted = subst (λ (l : List EditEntry). IsCounted l no_edits after) (sym all) (counted_then (all_edits far.bases) is.entries no_edits tally after far.counted (counts is.entries is.are));
        }

  -- so many were written
  pub many_done : (left : List (ℕ × List ℕ)) (now : S) (tally : Tally) (far : Far left now tally) (i : ℕ) → left ≡ drop i list → i ≤ length list → length far.done ≡ i
  many_done left now tally far i is within =
      let whole = ap (λ (l : List (ℕ × List ℕ)). length l) (far.split ∙ ap (λ (l : List (ℕ × List ℕ)). far.done ++ l) is) in
      omega (arith, whole, within, length-append far.done (drop i list), length-drop i list)

  -- all were written
  all_done : (left : List (ℕ × List ℕ)) (now : S) (tally : Tally) → (far : Far left now tally) → left ≡ [] → AreDeepBases d list far.bases
  all_done left now tally far none =
      subst (λ (l : List (ℕ × List ℕ)). AreDeepBases d l far.bases) (sym (far.split ∙ ap (λ (l : List (ℕ × List ℕ)). far.done ++ l) none ∙ append-nil far.done)) far.are

  pub bases_all : (left : List (ℕ × List ℕ)) (now : S) (tally : Tally) → Far left now tally → left ≡ [] → HasText g (IsBasesText d list) old now
  bases_all left now tally far none = record {
    text = deep_base_lines d.yacc.now 0 0 far.bases;
    is = record { bases = far.bases; are = all_done left now tally far none; lines = refl };
    written = far.written;
  }

  pub bases_counted : (left : List (ℕ × List ℕ)) (now : S) (tally : Tally) → Far left now tally → left ≡ [] → CountsBases d list tally
  bases_counted left now tally far none bases are =
      subst (λ (l : List DeepBase). IsCounted (all_edits l) no_edits tally) (same_bases list far.bases bases (all_done left now tally far none) are) far.counted
