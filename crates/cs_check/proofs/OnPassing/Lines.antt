-- A text passes where it says right lines, and that it passes else cannot be.
use Rattle.std.proofs.Common.{◌≡◌, ℕ, List, [], ◌∷◌, ◌++◌, Option, Some, None, map, refl, sym, ap, ◌∙◌, subst, append_assoc, append-nil}
use Rattle.std.specs.List.{AllZip}
use Rattle.std.proofs.lemmas.List.{same_from_push}
use Rattle.cs_check.specs.declared.passing.fault.ClaimFault.{ClaimFault}
use Rattle.cs_check.specs.declared.passing.fault.ClaimFault.TheVariants.{Form, Head, Unclosed, Derive, Size, Yield, Scan, Goal, Infeasible, Base, Edit, Pair, Totals}
use Rattle.cs_lines.specs.Lines.Line.{Line}
use Rattle.cs_lines.specs.Lines.Texts.{Says}
use Rattle.cs_lines.specs.Lines.Pieces.{lines_of, ended}
use Rattle.cs_check.specs.Passing.First.{IsFaultless}
use Rattle.cs_check.specs.Passing.Places.{OfEnd, last_part}
use Rattle.cs_check.specs.Passing.Faults.{Checked, Has, AreSaid, HasFault}
use Rattle.cs_check.specs.Passing.Passing.{Passes}
use Rattle.cs_check.specs.Passing.Manifest.{AreLines, HaveAll, AreRight}
use Rattle.cs_check.specs.Checking.Judging.{IsRight}
use Rattle.cs_lines.proofs.OnTexts.OneLine.{one_line}
use Rattle.cs_check.proofs.OnChecking.Judging.{right_faultless, end_faultless}
use Rattle.cs_check.proofs.OnChecking.Kinds.{all_faults}
use Rattle.cs_check.proofs.OnPassing.First.{Bare, Ended, back}

-- ---- one list

pub one_list : (pieces : List (List ℕ)) (ls ks : List Line) → AllZip Says pieces ls → AllZip Says pieces ks → ls ≡ ks
one_list [] [] [] h i = refl
one_list [] [] (k ∷ ks) h i = absurd i
one_list [] (l ∷ ls) ks h i = absurd h
one_list (p ∷ pieces) [] ks h i = absurd h
one_list (p ∷ pieces) (l ∷ ls) [] h i = absurd i
one_list (p ∷ pieces) (l ∷ ls) (k ∷ ks) h i =
    ap (λ (x : Line). x ∷ ls) (one_line p l k h.0 i.0) ∙ ap (λ (x : List Line). k ∷ x) (one_list pieces ls ks h.1 i.1)

-- ---- lines and pieces

pub said : (pieces : List (List ℕ)) (ls : List Line) → AllZip Says pieces ls → AreSaid (map Some pieces) ls
said [] [] h = tt
said [] (l ∷ ls) h = absurd h
said (p ∷ pieces) [] h = absurd h
said (p ∷ pieces) (l ∷ ls) h = (h.0, said pieces ls h.1)

pub unsaid : (pieces : List (List ℕ)) (ls : List Line) → AreSaid (map Some pieces) ls → AllZip Says pieces ls
unsaid [] [] h = tt
unsaid [] (l ∷ ls) h = absurd h
unsaid (p ∷ pieces) [] h = absurd h
unsaid (p ∷ pieces) (l ∷ ls) h = (h.0, unsaid pieces ls h.1)

says_more : (pieces : List (List ℕ)) (ls : List Line) (p : List ℕ) (l : Line) → AllZip Says pieces ls → Says p l → AllZip Says (pieces ++ p ∷ []) (ls ++ l ∷ [])
says_more [] [] p l h says = (says, tt)
says_more [] (k ∷ ls) p l h says = absurd h
says_more (q ∷ pieces) [] p l h says = absurd h
says_more (q ∷ pieces) (k ∷ ls) p l h says = (h.0, says_more pieces ls p l h.1 says)

-- the lines of a place among the pieces
record AreAround (before : List (List ℕ)) (piece : List ℕ) (lines : List Line) : Type 0 where
  above : List Line
  line : Line
  below : List Line
  place : lines ≡ above ++ line ∷ below
  said_above : AllZip Says before above
  says : Says piece line

around : (before : List (List ℕ)) (piece : List ℕ) (behind : List (List ℕ)) (lines : List Line) → AllZip Says (before ++ piece ∷ behind) lines → AreAround before piece lines
around [] piece behind [] h = absurd h
around [] piece behind (l ∷ ls) h = record { above = []; line = l; below = ls; place = refl; said_above = tt; says = h.0 }
around (p ∷ before) piece behind [] h = absurd h
around (p ∷ before) piece behind (l ∷ ls) h =
    let inner = around before piece behind ls h.1 in
    record {
      above = l ∷ inner.above;
      line = inner.line;
      below = inner.below;
      place = ap (λ (x : List Line). l ∷ x) inner.place;
      said_above = (h.0, inner.said_above);
      says = inner.says;
    }

-- a place of the ended pieces
data Place (pieces : List (List ℕ)) (above : List (Option (List ℕ))) (line : Option (List ℕ)) : Type 0 where
  AtPiece : (before : List (List ℕ)) (piece : List ℕ) (behind : List (List ℕ)) → pieces ≡ before ++ piece ∷ behind → above ≡ map Some before → line ≡ Some piece → Place pieces above line
  AtEnd : above ≡ map Some pieces → line ≡ None → Place pieces above line

no_line : {A : Type 0} (above : List A) (line : A) (below : List A) → [] ≡ above ++ line ∷ below → ⊥
no_line [] line below e = absurd cc
no_line (x ∷ above) line below e = absurd cc

place_of : (pieces : List (List ℕ)) (above : List (Option (List ℕ))) (line : Option (List ℕ)) (below : List (Option (List ℕ))) → map Some pieces ++ None ∷ [] ≡ above ++ line ∷ below → Place pieces above line
place_of [] [] line below e = AtEnd refl (cc)
place_of [] (x ∷ above) line below e = absurd (no_line above line below (cc))
place_of (p ∷ pieces) [] line below e = AtPiece [] p pieces refl refl (cc)
place_of (p ∷ pieces) (x ∷ above) line below e =
    let head : x ≡ Some p = cc in
    elim (place_of pieces above line below (cc)) [
      | AtPiece before piece behind is up here ↦
          AtPiece (p ∷ before) piece behind (ap (λ (s : List (List ℕ)). p ∷ s) is)
          (ap (λ (s : List (Option (List ℕ))). x ∷ s) up ∙ ap (λ (y : Option (List ℕ)). y ∷ map Some before) head) here
      | AtEnd up here ↦
          AtEnd (ap (λ (s : List (Option (List ℕ))). x ∷ s) up ∙ ap (λ (y : Option (List ℕ)). y ∷ map Some pieces) head) here
    ]

-- ---- right lines pass

pub right_pass : (c : Checked) (text : List ℕ) (lines : List Line) → AreLines text lines → AreRight c lines → Passes c text
right_pass c text lines are right above line below place =
    elim (place_of (lines_of text) above line below place) [
      | AtPiece before piece behind is up here ↦
          (let at = around before piece behind lines (subst (λ (s : List (List ℕ)). AllZip Says s lines) is are) in
          let faultless = right_faultless c (map Some before) at.above (said before at.above at.said_above) piece at.line at.says (right.each at.above at.line at.below at.place) in
          subst (λ (s : List (Option (List ℕ))). IsFaultless (HasFault c) s line) (sym up)
          (subst (λ (o : Option (List ℕ)). IsFaultless (HasFault c) (map Some before) o) (sym here) faultless))
      | AtEnd up here ↦
          (let faultless = end_faultless c (map Some (lines_of text)) lines (said (lines_of text) lines are) right.ended in
          subst (λ (s : List (Option (List ℕ))). IsFaultless (HasFault c) s line) (sym up)
          (subst (λ (o : Option (List ℕ)). IsFaultless (HasFault c) (map Some (lines_of text)) o) (sym here) faultless))
    ]

-- ---- and the other way

-- lines that are right so far, and one more
pub right_none : (c : Checked) → HaveAll c []
right_none c above l below e = absurd (no_line above l below e)

pub right_more : (c : Checked) (lines : List Line) (line : Line) → HaveAll c lines → IsRight c lines line → HaveAll c (lines ++ line ∷ [])
right_more c lines line right here above l below e f =
    elim (back below) [
      | Bare none ↦
          (let same = same_from_push lines above line l (e ∙ ap (λ (s : List Line). above ++ l ∷ s) none) in
          subst (λ (s : List Line). Has c f s l) same.0 (subst (λ (m : Line). Has c f lines m) same.1 (here f)))
      | Ended init y ends ↦
          (let same = same_from_push lines (above ++ l ∷ init) line y (e ∙ ap (λ (s : List Line). above ++ l ∷ s) ends ∙ sym (append_assoc above (l ∷ init) (y ∷ []))) in
          right above l init same.0 f)
    ]

module _ (c : Checked) (above : List Line) (l : Line) where
  -- what is so of each fault, as it can't be otherwise, is so of all
  right_of : ((f : ClaimFault) → (Has c f above l → ⊥) → ⊥) → (IsRight c above l → ⊥) → ⊥
  right_of h never =
      h Form (λ h1. h Head (λ h2. h Unclosed (λ h3. h Derive (λ h4. h Size (λ h5. h Yield (λ h6. h Scan (λ h7. h Goal (λ h8.
      h Infeasible (λ h9. h Base (λ h10. h Edit (λ h11. h Pair (λ h12. h Totals (λ h13.
      never (all_faults (λ (f : ClaimFault). Has c f above l) h1 h2 h3 h4 h5 h6 h7 h8 h9 h10 h11 h12 h13))))))))))))))

  -- a line with no fault is right
  module _ (pieces : List (List ℕ)) (piece : List ℕ) (are : AllZip Says pieces above) (says : Says piece l) where
    faultless_right : IsFaultless (HasFault c) (map Some pieces) (Some piece) → (IsRight c above l → ⊥) → ⊥
    faultless_right faultless = right_of each
      where
        each : (f : ClaimFault) → (Has c f above l → ⊥) → ⊥
        each Form never = faultless Form (λ form. never (
            subst (λ (x : Line). Has c Form above x) (one_line piece form.1 l form.3 says)
            (subst (λ (x : List Line). Has c Form x form.1) (one_list pieces form.0 above (unsaid pieces form.0 form.2) are) form.4)))
        each Head never = faultless Head (above, l, said pieces above are, says, never)
        each Unclosed never = faultless Unclosed (above, l, said pieces above are, says, never)
        each Derive never = faultless Derive (above, l, said pieces above are, says, never)
        each Size never = faultless Size (above, l, said pieces above are, says, never)
        each Yield never = faultless Yield (above, l, said pieces above are, says, never)
        each Scan never = faultless Scan (above, l, said pieces above are, says, never)
        each Goal never = faultless Goal (above, l, said pieces above are, says, never)
        each Infeasible never = faultless Infeasible (above, l, said pieces above are, says, never)
        each Base never = faultless Base (above, l, said pieces above are, says, never)
        each Edit never = faultless Edit (above, l, said pieces above are, says, never)
        each Pair never = faultless Pair (above, l, said pieces above are, says, never)
        each Totals never = faultless Totals (above, l, said pieces above are, says, never)

map_some_more : (before : List (List ℕ)) (p : List ℕ) (behind : List (List ℕ)) → map Some (before ++ p ∷ behind) ++ None ∷ [] ≡ map Some before ++ Some p ∷ (map Some behind ++ None ∷ [])
map_some_more [] p behind = refl
map_some_more (q ∷ before) p behind = ap (λ (s : List (Option (List ℕ))). Some q ∷ s) (map_some_more before p behind)

module _ (c : Checked) (text : List ℕ) (passes : Passes c text) (never : (lines : List Line) → AreLines text lines → AreRight c lines → ⊥) where
  -- lines that are right so far go on
  goes_on : (behind before : List (List ℕ)) (ls : List Line) → lines_of text ≡ before ++ behind → AllZip Says before ls → HaveAll c ls → ⊥
  goes_on [] before ls is are right =
      let whole : lines_of text ≡ before = is ∙ append-nil before in
      let place : ended text ≡ map Some before ++ None ∷ [] = ap (λ (s : List (List ℕ)). map Some s ++ None ∷ []) whole in
      passes (map Some before) None [] place Form (λ form.
      never ls (subst (λ (s : List (List ℕ)). AllZip Says s ls) (sym whole) are) (record {
        each = right;
        ended = subst (λ (x : List Line). last_part x ≡ OfEnd) (one_list before form.0 ls (unsaid before form.0 form.1) are) form.2;
      }))
  goes_on (p ∷ behind) before ls is are right =
      let place : ended text ≡ map Some before ++ Some p ∷ (map Some behind ++ None ∷ []) = ap (λ (s : List (List ℕ)). map Some s ++ None ∷ []) is ∙ map_some_more before p behind in
      let faultless : IsFaultless (HasFault c) (map Some before) (Some p) = passes (map Some before) (Some p) (map Some behind ++ None ∷ []) place in
      let further : lines_of text ≡ (before ++ p ∷ []) ++ behind = is ∙ sym (append_assoc before (p ∷ []) behind) in
      faultless Form (λ form.
      faultless_right c ls form.1 before p are form.3 faultless (λ here.
      goes_on behind (before ++ p ∷ []) (ls ++ form.1 ∷ []) further (says_more before ls p form.1 are form.3) (right_more c ls form.1 right here)))

pub pass_right : (c : Checked) (text : List ℕ) → Passes c text → ((lines : List Line) → AreLines text lines → AreRight c lines → ⊥) → ⊥
pass_right c text passes never = goes_on c text passes never (lines_of text) [] [] refl tt (right_none c)
