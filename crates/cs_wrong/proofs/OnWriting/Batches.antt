-- Slips that were written one batch after another, and where that stopped.
use Rattle.std.proofs.Common.{◌≡◌, ◌≤◌, ◌<◌, ℕ, ◌+◌, List, [], ◌∷◌, ◌++◌, append_assoc, length, length-append, refl, sym, ap, ◌∙◌, subst, arith, Option}
use Rattle.std.proofs.lemmas.List.{append-nil, length-map}
use Rattle.cs_io.proofs.Stops.{stopped_behind, stopped_by_cut, stopped_by_memory, stopped_longer}
use Rattle.cs_io.specs.Faults.{greatest}
use Rattle.cs_io.specs.Lines.{IsCutShort, IsWritten}
use Rattle.cs_io.specs.Stops.{HasSomeText, HasText, IsStopped}
use Rattle.cs_io.specs.declared.halt.Halt.TheVariants.{Failed, Memory}
use Rattle.cs_io.specs.declared.sink.Sink as Sink
use Rattle.cs_manifest.proofs.OnOutput.Written.{written_none, written_then}
use Rattle.cs_manifest.specs.Manifest.Manifest.{HasOneText, Texts}
use Rattle.cs_wrong.proofs.OnClasses.Behind.{behind_both, length-behind}
use Rattle.cs_wrong.proofs.OnWriting.Counting.{counted_none, counted_then, lines_both, many_wrong, none_within, within_counted}
use Rattle.cs_wrong.proofs.OnWriting.OneWrong.{one_entries}
use Rattle.cs_manifest.proofs.OnManifest.Zips.{length_zip, zip_both, zip_split}
use Rattle.cs_wrong.specs.Classes.Classes.{behind}
use Rattle.cs_wrong.specs.Classes.Coming.{slips_in}
use Rattle.cs_wrong.specs.Writing.Entries.{lines_from}
use Rattle.cs_wrong.specs.Writing.Progress.{AreEntries, CountsAll, IsBodyText, all_slips, lexemes_by, texts_by, weighed_in}
use Rattle.cs_wrong.specs.Writing.Tally.{CanCount, IsCounted, no_slips}
use Rattle.cs_wrong.specs.Writing.Text.{IsEntryOf, SlipEntry, wrong_ones}
use Rattle.cs_wrong.specs.declared.classes.coming.Candidate.{Candidate}
use Rattle.cs_wrong.specs.declared.slips.slip.Slip.{Slip}
use Rattle.cs_wrong.specs.declared.writing.tally.Tally.{Tally}
use Rattle.cs_wrong.specs.declared.writing.writing.Wrong.{Wrong}

module _ {S : Type 0} (g : Sink.Ghosts S) (d : Wrong) (old : S) where
  abbrev Of : List Slip × Slip → SlipEntry → Type 0
  Of = IsEntryOf (weighed_in d) (texts_by d) (lexemes_by d)

  -- The first slips were written and counted, and these are left.
  pub record SlipsSoFar (done left : List Slip) (now : S) (tally : Tally) : Type 0 where
    pub entries : List SlipEntry
    pub split : all_slips d ≡ done ++ left
    pub are : AreEntries d (behind [] done) entries
    pub written : IsWritten g (lines_from d.yacc.now 0 entries) old now
    pub counted : IsCounted entries no_slips tally

  pub slips_none : (tally : Tally) → tally ≡ no_slips → SlipsSoFar [] (all_slips d) old tally
  slips_none tally none =
      record { entries = []; split = refl; are = tt; written = written_none old; counted = subst (λ (t : Tally). IsCounted [] no_slips t) (sym none) (counted_none no_slips) }

  -- how many were written
  many_done : (done left : List Slip) (now : S) (tally : Tally) → (far : SlipsSoFar done left now tally) → tally.wrong ≡ 0 + length (wrong_ones far.entries)
  many_done done left now tally far = omega (arith, far.counted.wrong, many_wrong far.entries)

  -- the others can be counted
  pub slips_count : (done more rest : List Slip) (now : S) (tally : Tally) → length (all_slips d) ≤ greatest → (far : SlipsSoFar done (more ++ rest) now tally) → CanCount tally (length more)
  slips_count done more rest now tally few far =
      let zipped = length_zip Of (behind [] done) far.entries far.are in
      let long = length-behind [] done in
      let whole = ap (λ (l : List Slip). length l) far.split in
      record {
        within = within_counted far.entries no_slips tally none_within far.counted;
        few = omega (arith, few, whole, zipped, long, far.counted.slips, length-append done (more ++ rest), length-append more rest);
      }

  -- what follows the first slips in a text
  pub record HasRest (done left : List Slip) (entries : List SlipEntry) (text : List ℕ) : Type 0 where
    pub others : List SlipEntry
    pub are : AreEntries d (behind done left) others
    pub whole : text ≡ lines_from d.yacc.now 0 entries ++ lines_from d.yacc.now (0 + length (wrong_ones entries)) others

  module _ (one : (texts : Option Texts) → HasOneText texts) where
    same_entries : (list : List (List Slip × Slip)) (a b : List SlipEntry) → AreEntries d list a → AreEntries d list b → a ≡ b
    same_entries list a b ha hb = one_entries (texts_by d) (one (texts_by d)) (lexemes_by d) (weighed_in d) list a b ha hb

    rest_of : (done left : List Slip) (now : S) (tally : Tally) (far : SlipsSoFar done left now tally) (text : List ℕ) → IsBodyText d text → HasRest done left far.entries text
    rest_of done left now tally far text is =
        let both = ap (λ (l : List Slip). behind [] l) far.split ∙ behind_both [] done left in
        let parts = zip_split Of (behind [] done) (behind done left) is.entries (subst (λ (l : List (List Slip × Slip)). AreEntries d l is.entries) both is.are) in
        let same : parts.front ≡ far.entries = same_entries (behind [] done) parts.front far.entries parts.first far.are in
        let whole : is.entries ≡ far.entries ++ parts.behind = parts.whole ∙ ap (λ (l : List SlipEntry). l ++ parts.behind) same in
        record {
          others = parts.behind;
          are = parts.second;
          whole = is.lines ∙ ap (λ (l : List SlipEntry). lines_from d.yacc.now 0 l) whole ∙ lines_both d.yacc.now 0 far.entries parts.behind;
        }

    -- memory ran out behind them
    pub slips_memory : (done left : List Slip) (now : S) (tally : Tally) → SlipsSoFar done left now tally → HasSomeText g (IsBodyText d) old now Memory
    slips_memory done left now tally far text is =
        let rest = rest_of done left now tally far text is in
        subst (λ (l : List ℕ). IsStopped g l old now Memory) (sym rest.whole) (stopped_by_memory far.written (lines_from d.yacc.now (0 + length (wrong_ones far.entries)) rest.others))

    -- some more were written and counted
    pub slips_more : (done left more rest : List Slip) (mid now : S) (tally after : Tally) (told : List SlipEntry) → (far : SlipsSoFar done left mid tally) → left ≡ more ++ rest → AreEntries d (behind done more) told
        → IsWritten g (lines_from d.yacc.now tally.wrong told) mid now → IsCounted told tally after → SlipsSoFar (done ++ more) rest now after
    slips_more done left more rest mid now tally after told far split are written counted =
        let lines = subst (λ (n : ℕ). IsWritten g (lines_from d.yacc.now n told) mid now) (many_done done left mid tally far) written in
        record {
          entries = far.entries ++ told;
          split = far.split ∙ ap (λ (l : List Slip). done ++ l) split ∙ sym (append_assoc done more rest);
          are = subst (λ (l : List (List Slip × Slip)). AreEntries d l (far.entries ++ told)) (sym (behind_both [] done more)) (zip_both Of (behind [] done) (behind done more) far.entries told far.are are);
          written = subst (λ (l : List ℕ). IsWritten g l old now) (sym (lines_both d.yacc.now 0 far.entries told)) (written_then far.written lines);
          counted = counted_then far.entries told no_slips tally after far.counted counted;
        }

    -- the writing of some more was cut short
    pub slips_cut : (done left more rest : List Slip) (mid now : S) (tally : Tally) (told : List SlipEntry) → (far : SlipsSoFar done left mid tally) → left ≡ more ++ rest → AreEntries d (behind done more) told
        → IsCutShort g (lines_from d.yacc.now tally.wrong told) mid now → HasSomeText g (IsBodyText d) old now Failed
    slips_cut done left more rest mid now tally told far split are cut text is =
        let follows = rest_of done left mid tally far text is in
        let at = 0 + length (wrong_ones far.entries) in
        let cut_behind = subst (λ (n : ℕ). IsCutShort g (lines_from d.yacc.now n told) mid now) (many_done done left mid tally far) cut in
        let both = ap (λ (l : List Slip). behind done l) split ∙ behind_both done more rest in
        let parts = zip_split Of (behind done more) (behind (done ++ more) rest) follows.others (subst (λ (l : List (List Slip × Slip)). AreEntries d l follows.others) both follows.are) in
        let same : parts.front ≡ told = same_entries (behind done more) parts.front told parts.first are in
        let others : follows.others ≡ told ++ parts.behind = parts.whole ∙ ap (λ (l : List SlipEntry). l ++ parts.behind) same in
        let stopped = subst (λ (l : List ℕ). IsStopped g l mid now Failed)
        (sym (ap (λ (l : List SlipEntry). lines_from d.yacc.now at l) others ∙ lines_both d.yacc.now at told parts.behind))
        (stopped_longer (lines_from d.yacc.now (at + length (wrong_ones told)) parts.behind) (stopped_by_cut cut_behind)) in
        subst (λ (l : List ℕ). IsStopped g l old now Failed) (sym follows.whole) (stopped_behind far.written stopped)

    -- all were written and counted
    all_done : (done left : List Slip) (now : S) (tally : Tally) → (far : SlipsSoFar done left now tally) → left ≡ [] → AreEntries d (behind [] (all_slips d)) far.entries
    all_done done left now tally far none =
        subst (λ (l : List Slip). AreEntries d (behind [] l) far.entries) (sym (far.split ∙ ap (λ (l : List Slip). done ++ l) none ∙ append-nil done)) far.are

    pub slips_all : (done left : List Slip) (now : S) (tally : Tally) → SlipsSoFar done left now tally → left ≡ [] → HasText g (IsBodyText d) old now
    slips_all done left now tally far none = record {
      text = lines_from d.yacc.now 0 far.entries;
      is = record { entries = far.entries; are = all_done done left now tally far none; lines = refl };
      written = far.written;
    }

    pub slips_counted : (done left : List Slip) (now : S) (tally : Tally) → SlipsSoFar done left now tally → left ≡ [] → CountsAll d tally
    slips_counted done left now tally far none entries are =
        subst (λ (l : List SlipEntry). IsCounted l no_slips tally) (same_entries (behind [] (all_slips d)) far.entries entries (all_done done left now tally far none) are) far.counted

-- a list without members
pub nothing_in : {A : Type 0} (xs : List A) → length xs ≡ 0 → xs ≡ []
nothing_in [] e = refl
nothing_in (x ∷ xs) e = absurd (omega (arith, e))

-- some were taken, so that fewer are left
pub fewer_left : (old : List Slip) (batch : List Candidate) (new : List Slip) → old ≡ slips_in batch ++ new → 0 < length batch → length new < length old
fewer_left old batch new split some =
    omega (arith, ap (λ (l : List Slip). length l) split, length-append (slips_in batch) new, length-map batch (λ (c : Candidate). c.slip), some)
