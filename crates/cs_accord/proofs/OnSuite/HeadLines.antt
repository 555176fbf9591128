-- Lines that stand where the head has them lack each fault.
use Rattle.std.proofs.Common.{◌≡◌, ◌<◌, ◌≤◌, Bool, true, false, List, [], ◌∷◌, ◌++◌, Some, length, length-append, refl, sym, ap, ◌∙◌, subst, append_assoc, inl, ⊎_elim, arith}
use Rattle.std.specs.Prelude.{◌||◌, slice_get}
use Rattle.std.specs.List.{AllZip, list_any}
use Rattle.std.proofs.lemmas.Bool.{cases_Bool, cases_lt}
use Rattle.std.proofs.lemmas.Option.{same_Some}
use Rattle.cs_grammar.specs.Grammar.{PlainGrammar}
use Rattle.cs_yacc.specs.Reading.File.{File}
use Rattle.cs_lines.specs.Lines.Line.{Line}
use Rattle.cs_closed.specs.Closed.Sets.{PlainSets}
use Rattle.cs_closed.specs.Closed.Closed.{AreClosed}
use Rattle.cs_check.specs.Passing.Above.{is_set, has_sets}
use Rattle.cs_check.specs.Passing.Head.{Due, Takes, IsOfFile, AreClaimed, tables, whole_head, head_size}
use Rattle.cs_check.specs.Passing.Faults.{Checked}
use Rattle.cs_check.specs.Checking.Judging.{IsRight}
use Rattle.cs_check.proofs.OnChecking.HeadPlaces.{size_with, size_without, tables_within}
use Rattle.cs_check.proofs.OnChecking.Kinds.{taken_head, right_head}
use Rattle.cs_accord.proofs.OnSuite.Fine.{AreFine}
use Rattle.cs_accord.proofs.OnSuite.Lists.{seam}

-- the line is one for this place, and the file's
pub record IsHeadLine (file : File) (due : Due) (l : Line) : Type 0 where
  pub takes : Takes due l
  pub of_file : IsOfFile file due l

-- ---- how many lines the head has, by those above

or_true : (b : Bool) → (b || true) ≡ true
or_true true = refl
or_true false = refl

pub sets_behind : (front : List Line) (set : Line) (rest pre post : List Line) → is_set set ≡ true → front ++ set ∷ rest ≡ pre ++ post → length front < length pre → has_sets pre ≡ true
sets_behind [] set rest [] post is e less = absurd (omega (arith, less))
sets_behind [] set rest (x ∷ pre) post is e less =
    let same : set ≡ x = cc in
    ap (λ (b : Bool). b || list_any is_set pre) (ap is_set (sym same) ∙ is)
sets_behind (y ∷ front) set rest [] post is e less = absurd (omega (arith, less))
sets_behind (y ∷ front) set rest (x ∷ pre) post is e less =
    let others : front ++ set ∷ rest ≡ pre ++ post = cc in
    ap (λ (b : Bool). is_set x || b) (sets_behind front set rest pre post is others (omega (arith, less))) ∙ or_true (is_set x)

module _ (g : PlainGrammar) where
  size_least : (pre : List Line) → length (tables g) ≤ head_size g pre
  size_least pre =
      ⊎_elim
      (λ (has : has_sets pre ≡ true). let is = size_with g pre has in let less = tables_within g in omega (arith, is, less))
      (λ (none : has_sets pre ≡ false). let is = size_without g pre none in omega (arith, is))
      (cases_Bool (has_sets pre))

  -- no front of the head is longer than it says
  pub head_within : (front : List Line) (set : Line) (rest pre post : List Line) → length front ≡ length (tables g) → length (front ++ set ∷ rest) ≡ length (whole_head g) → is_set set ≡ true
      → front ++ set ∷ rest ≡ pre ++ post → length pre ≤ head_size g pre
  head_within front set rest pre post many all is e =
      ⊎_elim
      (λ (less : length front < length pre).
      let size = size_with g pre (sets_behind front set rest pre post is e less) in
      let whole = ap (λ (l : List Line). length l) e in
      let long = length-append pre post in
      omega (arith, size, whole, all, long))
      (λ (few : length pre ≤ length front). let least = size_least pre in omega (arith, few, many, least))
      (cases_lt (length front) (length pre))

-- ---- the lines of the head

-- no line comes too late, the lines are as many as are due, and sets that they claim are closed
pub record IsHead (c : Checked) (head : List Line) : Type 0 where
  pub within : (pre : List Line) (l : Line) (post : List Line) → head ≡ pre ++ l ∷ post → length pre ≤ head_size c.file.grammar pre
  pub all : length head ≡ length (whole_head c.file.grammar)
  pub closed : (s : PlainSets) → AreClaimed c.file head s → AreClosed c.file.grammar s

module _ {c : Checked} {head : List Line} (known : IsHead c head) where
  none_behind : {A : Type 0} (xs : List A) → length xs ≡ 0 → xs ≡ []
  none_behind [] e = refl
  none_behind (x ∷ xs) e = absurd (omega (arith, e))

  head_right : (above : List Line) (l : Line) (below : List Line) (due : Due) → head ≡ above ++ l ∷ below → IsHeadLine c.file due l → slice_get (whole_head c.file.grammar) (length above) ≡ Some due → IsRight c above l
  head_right above l below due place is at =
      right_head c above l (taken_head due l is.takes)
      (inl (record { within = known.within above l below place; due = due; is_due = at; takes = is.takes }))
      (λ h. subst (λ (d : Due). IsOfFile c.file d l) (same_Some due h.due (sym at ∙ h.is_due)) is.of_file)
      (λ h last s claimed.
      let whole = ap (λ (x : List Line). length x) place in
      let long = length-append above (l ∷ below) in
      let all = known.all in
      let none : length below ≡ 0 = omega (arith, whole, long, all, last) in
      let same : head ≡ above ++ l ∷ [] = place ∙ ap (λ (x : List Line). above ++ l ∷ x) (none_behind below none) in
      known.closed s (subst (λ (x : List Line). AreClaimed c.file x s) (sym same) claimed))

  fine_from : (above : List Line) (front dues : List Due) (rest : List Line) → head ≡ above ++ rest → whole_head c.file.grammar ≡ front ++ dues → length front ≡ length above → AllZip (IsHeadLine c.file) dues rest → AreFine c above rest
  fine_from above front [] [] place dues_are many zip = tt
  fine_from above front [] (l ∷ rest) place dues_are many zip = absurd zip
  fine_from above front (due ∷ dues) [] place dues_are many zip = absurd zip
  fine_from above front (due ∷ dues) (l ∷ rest) place dues_are many zip =
      let at : slice_get (whole_head c.file.grammar) (length above) ≡ Some due =
      ap (slice_get (whole_head c.file.grammar)) (sym many) ∙ ap (λ (d : List Due). slice_get d (length front)) dues_are ∙ seam front due dues in
      let longer = length-append front (due ∷ []) in
      let more = length-append above (l ∷ []) in (
        head_right above l rest due place zip.0 at,
        fine_from (above ++ l ∷ []) (front ++ due ∷ []) dues rest (place ∙ sym (append_assoc above (l ∷ []) rest)) (dues_are ∙ sym (append_assoc front (due ∷ []) dues))
            (omega (arith, longer, more, many)) zip.1,
      )

  pub head_fine : AllZip (IsHeadLine c.file) (whole_head c.file.grammar) head → AreFine c [] head
  head_fine zip = fine_from [] [] (whole_head c.file.grammar) head refl refl refl zip
