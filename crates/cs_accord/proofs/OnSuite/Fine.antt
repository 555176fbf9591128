-- Lines that lack each fault, one behind the other; a text of such lines passes.
use Rattle.std.proofs.Common.{◌≡◌, ℕ, List, [], ◌∷◌, ◌++◌, Option, Some, None, map, sym, ap, ◌∙◌, subst, append_assoc, append-nil}
use Rattle.std.proofs.lemmas.List.{map_push}
use Rattle.cs_lines.specs.Lines.Line.{Line}
use Rattle.cs_lines.specs.Lines.Pieces.{lines_of, ended}
use Rattle.cs_check.specs.Passing.First.{IsClean}
use Rattle.cs_check.specs.Passing.Places.{last_part}
use Rattle.cs_check.specs.Passing.Faults.{Checked, AreSaid, HasFault}
use Rattle.cs_check.specs.Passing.Passing.{Passes}
use Rattle.cs_check.specs.Checking.Judging.{IsRight}
use Rattle.cs_check.proofs.OnPassing.First.{clean_none, clean_push}
use Rattle.cs_check.proofs.OnChecking.Judging.{said_push, right_faultless, end_faultless}
use Rattle.cs_accord.proofs.OnSuite.Telling.{of_end}
use Rattle.cs_accord.proofs.OnSuite.Inner.{text_of, told, IsSayable, AreSayable, says, told_lines}

module _ (c : Checked) where
  -- each of these lines lacks each fault, below those
  abbrev pub AreFine : List Line → List Line → Type 0
  AreFine above [] = Unit {0}
  AreFine above (l ∷ lines) = IsRight c above l × AreFine (above ++ l ∷ []) lines

  pub fine_one : (above : List Line) (l : Line) → IsRight c above l → AreFine above (l ∷ [])
  fine_one above l right = (right, tt)

  pub fine_both : (above xs ys : List Line) → AreFine above xs → AreFine (above ++ xs) ys → AreFine above (xs ++ ys)
  fine_both above [] ys first second = subst (λ (a : List Line). AreFine a ys) (append-nil above) second
  fine_both above (x ∷ xs) ys first second = (
    first.0,
    fine_both (above ++ x ∷ []) xs ys first.1 (subst (λ (a : List Line). AreFine a ys) (sym (append_assoc above (x ∷ []) xs)) second),
  )

  abbrev spoken : List Line → List (Option (List ℕ))
  spoken lines = map Some (map text_of lines)

  spoken_push : (lines : List Line) (l : Line) → spoken (lines ++ l ∷ []) ≡ spoken lines ++ Some (text_of l) ∷ []
  spoken_push lines l = ap (map Some) (map_push text_of lines l) ∙ map_push Some (map text_of lines) (text_of l)

  -- so far
  record IsSoFar (lines : List Line) : Type 0 where
    said : AreSaid (spoken lines) lines
    clean : IsClean (HasFault c) (spoken lines)

  so_far_more : (lines : List Line) (l : Line) → IsSoFar lines → IsSayable l → IsRight c lines l → IsSoFar (lines ++ l ∷ [])
  so_far_more lines l so sayable right = record {
    said = subst (λ (t : List (Option (List ℕ))). AreSaid t (lines ++ l ∷ [])) (sym (spoken_push lines l)) (said_push (spoken lines) lines (text_of l) l so.said (says l sayable));
    clean = subst (IsClean (HasFault c)) (sym (spoken_push lines l))
        (clean_push (HasFault c) (spoken lines) (Some (text_of l)) so.clean (right_faultless c (spoken lines) lines so.said (text_of l) l (says l sayable) right));
  }

  so_far_all : (done rest : List Line) → IsSoFar done → AreSayable rest → AreFine done rest → IsSoFar (done ++ rest)
  so_far_all done [] so sayable fine = subst IsSoFar (sym (append-nil done)) so
  so_far_all done (l ∷ rest) so sayable fine =
      subst IsSoFar (append_assoc done (l ∷ []) rest)
      (so_far_all (done ++ l ∷ []) rest (so_far_more done l so sayable.0 fine.0) sayable.1 fine.1)

  pub passes : (lines : List Line) (text : List ℕ) → AreSayable lines → AreFine [] lines → last_part lines ≡ last_part of_end → text ≡ told lines → Passes c text
  passes lines text sayable fine at_end is =
      let so = so_far_all [] lines (record { said = tt; clean = clean_none (HasFault c) }) sayable fine in
      let whole : ended text ≡ spoken lines ++ None ∷ [] = ap (λ (l : List (List ℕ)). map Some l ++ None ∷ []) (ap lines_of is ∙ told_lines lines sayable) in
      subst (IsClean (HasFault c)) (sym whole) (clean_push (HasFault c) (spoken lines) None so.clean (end_faultless c (spoken lines) lines so.said at_end))
