-- All lines are right where texts are exchanged and negatives go.
use Rattle.std.proofs.Common.{◌≡◌, ℕ, List, [], ◌∷◌, ◌++◌, sym, ap, ◌∙◌, subst, ⊎_elim, ◌⊎◌, append_assoc, append-nil}
use Rattle.std.specs.List.{AllZip}
use Rattle.cs_scanner.specs.Scan.Scan.{Scanning}
use Rattle.cs_lines.specs.Lines.Line.{Line, TokensLine, NegativeLine}
use Rattle.cs_check.specs.Passing.Places.{Part, OfEnd, last_part}
use Rattle.cs_check.specs.Passing.Faults.{Checked}
use Rattle.cs_check.specs.Passing.Passing.{Passes}
use Rattle.cs_check.specs.Passing.Manifest.{AreLines, AreRight}
use Rattle.cs_check.specs.Passing.Changes.{laid, AreOfNegative}
use Rattle.cs_check.specs.Checking.Judging.{IsRight}
use Rattle.cs_lines.specs.Lines.Pieces.{lines_of}
use Rattle.cs_check.proofs.OnPassing.Lines.{one_list, right_pass, pass_right}
use Rattle.cs_check.proofs.OnPassing.Splits.{no_line}
use Rattle.cs_check.proofs.OnPassing.Changed.{IsChanged}
use Rattle.cs_check.proofs.OnPassing.Kin.{AreKin, kin_end}
use Rattle.cs_check.proofs.OnPassing.Left.{AreLeft, left_none}
use Rattle.cs_check.proofs.OnPassing.Staying.{IsCounted, right_kin, left_more}
use Rattle.cs_check.proofs.OnPassing.Going.{with_three, left_gone}

-- a part that stays, or the lines of a negative that go
abbrev pub AreLeftOf : Scanning → List Line → List Line → Type 0
AreLeftOf s part stay = (AreOfNegative part × (stay ≡ [])) ⊎ ((l : Line) × (k : Line) × (part ≡ l ∷ []) × (stay ≡ k ∷ []) × IsChanged s l k)

module _ (c : Checked) (lines others : List Line) (right : AreRight c lines) (numbered : (above : List Line) (k : Line) (below : List Line) → others ≡ above ++ k ∷ below → IsCounted above k) where
  record AreSo (up up' : List Line) (parts stays : List (List Line)) : Type 0 where
    each : (above : List Line) (k : Line) (below : List Line) → laid stays ≡ above ++ k ∷ below → IsRight c (up' ++ above) k
    whole : AreLeft c.file.grammar (up ++ laid parts) (up' ++ laid stays)

  all_so : (parts stays : List (List Line)) → AllZip (AreLeftOf c.scanning) parts stays → (up up' : List Line) → AreLeft c.file.grammar up up' → lines ≡ up ++ laid parts → others ≡ up' ++ laid stays → AreSo up up' parts stays
  all_so [] [] h up up' left place place' = record {
    each = λ above k below e. absurd (no_line above k below e);
    whole =
        subst (λ (s : List Line). AreLeft c.file.grammar s (up' ++ [])) (sym (append-nil up))
        (subst (λ (s : List Line). AreLeft c.file.grammar up s) (sym (append-nil up')) left);
  }
  all_so [] (stay ∷ stays) h up up' left place place' = absurd h
  all_so (part ∷ parts) [] h up up' left place place' = absurd h
  all_so (part ∷ parts) (stay ∷ stays) h up up' left place place' =
      ⊎_elim
      (λ (gone : AreOfNegative part × (stay ≡ [])).
      let o = gone.0 in
      let n : Line = NegativeLine o.n o.base o.edit o.left o.right o.at in
      let t : Line = TokensLine o.names in
      let rest = laid parts in
      let at1 : lines ≡ up ++ n ∷ (t ∷ o.text ∷ rest) = place ∙ ap (λ (s : List Line). up ++ (s ++ rest)) o.are in
      let at2 : lines ≡ (up ++ n ∷ []) ++ t ∷ (o.text ∷ rest) = at1 ∙ sym (append_assoc up (n ∷ []) (t ∷ o.text ∷ rest)) in
      let at3 : lines ≡ ((up ++ n ∷ []) ++ t ∷ []) ++ o.text ∷ rest = at2 ∙ sym (append_assoc (up ++ n ∷ []) (t ∷ []) (o.text ∷ rest)) in
      let at4 : lines ≡ with_three up n t o.text ++ rest = at3 ∙ sym (append_assoc ((up ++ n ∷ []) ++ t ∷ []) (o.text ∷ []) rest) in
      let left' = left_gone c up up' left o.n o.base o.edit o.left o.right o.at o.names o.text
      (right.each up n (t ∷ o.text ∷ rest) at1) (right.each (up ++ n ∷ []) t (o.text ∷ rest) at2) (right.each ((up ++ n ∷ []) ++ t ∷ []) o.text rest at3) in
      let same : laid (stay ∷ stays) ≡ laid stays = ap (λ (s : List Line). s ++ laid stays) gone.1 in
      gone_so part parts stay stays up up' n t o.text o.are same
      (all_so parts stays h.1 (with_three up n t o.text) up' left' at4 (place' ∙ ap (λ (s : List Line). up' ++ s) same)))
      (λ one.
      let l = one.0 in
      let k = one.1 in
      let at : lines ≡ up ++ l ∷ laid parts = place ∙ ap (λ (s : List Line). up ++ (s ++ laid parts)) one.2 in
      let at' : others ≡ up' ++ k ∷ laid stays = place' ∙ ap (λ (s : List Line). up' ++ (s ++ laid stays)) one.3 in
      let is_right = right.each up l (laid parts) at in
      let counts = numbered up' k (laid stays) at' in
      one_so part parts stay stays up up' l k one.2 one.3 (right_kin c up up' left l k one.4 is_right counts)
      (all_so parts stays h.1 (up ++ l ∷ []) (up' ++ k ∷ []) (left_more c up up' left l k one.4 is_right counts)
      (at ∙ sym (append_assoc up (l ∷ []) (laid parts))) (at' ∙ sym (append_assoc up' (k ∷ []) (laid stays)))))
      h.0
    where
      gone_so : (part : List Line) (parts : List (List Line)) (stay : List Line) (stays : List (List Line)) (up up' : List Line) (n t x : Line) → part ≡ n ∷ t ∷ x ∷ [] → laid (stay ∷ stays) ≡ laid stays → AreSo (with_three up n t x) up' parts stays → AreSo up up' (part ∷ parts) (stay ∷ stays)
      gone_so part parts stay stays up up' n t x are same so =
          let rest = laid parts in
          let there : with_three up n t x ++ rest ≡ up ++ (part ++ rest) =
          append_assoc ((up ++ n ∷ []) ++ t ∷ []) (x ∷ []) rest
          ∙ append_assoc (up ++ n ∷ []) (t ∷ []) (x ∷ rest)
          ∙ append_assoc up (n ∷ []) (t ∷ x ∷ rest)
          ∙ ap (λ (s : List Line). up ++ (s ++ rest)) (sym are) in
          record {
            each = λ above k below e. so.each above k below (sym same ∙ e);
            whole =
                subst (λ (s : List Line). AreLeft c.file.grammar s (up' ++ (stay ++ laid stays))) there
                (subst (λ (s : List Line). AreLeft c.file.grammar (with_three up n t x ++ rest) (up' ++ s)) (sym same) so.whole);
          }

      one_so : (part : List Line) (parts : List (List Line)) (stay : List Line) (stays : List (List Line)) (up up' : List Line) (l k : Line) → part ≡ l ∷ [] → stay ≡ k ∷ [] → IsRight c up' k → AreSo (up ++ l ∷ []) (up' ++ k ∷ []) parts stays → AreSo up up' (part ∷ parts) (stay ∷ stays)
      one_so part parts stay stays up up' l k was is here so = record {
        each = each;
        whole =
            subst (λ (s : List Line). AreLeft c.file.grammar s (up' ++ (stay ++ laid stays)))
            (append_assoc up (l ∷ []) (laid parts) ∙ ap (λ (s : List Line). up ++ (s ++ laid parts)) (sym was))
            (subst (λ (s : List Line). AreLeft c.file.grammar ((up ++ l ∷ []) ++ laid parts) s)
            (append_assoc up' (k ∷ []) (laid stays) ∙ ap (λ (s : List Line). up' ++ (s ++ laid stays)) (sym is)) so.whole);
      }
        where
          first : stay ++ laid stays ≡ k ∷ laid stays
          first = ap (λ (s : List Line). s ++ laid stays) is

          each : (above : List Line) (k' : Line) (below : List Line) → stay ++ laid stays ≡ above ++ k' ∷ below → IsRight c (up' ++ above) k'
          each [] k' below e =
              let whole : k ∷ laid stays ≡ k' ∷ below = sym first ∙ e in
              let same : k ≡ k' = cc in
              subst (λ (s : List Line). IsRight c s k') (sym (append-nil up')) (subst (λ (y : Line). IsRight c up' y) same here)
          each (y ∷ above) k' below e =
              let whole : k ∷ laid stays ≡ y ∷ (above ++ k' ∷ below) = sym first ∙ e in
              let same : k ≡ y = cc in
              let inner : laid stays ≡ above ++ k' ∷ below = cc in
              subst (λ (s : List Line). IsRight c s k') (append_assoc up' (k ∷ []) above ∙ ap (λ (z : Line). up' ++ z ∷ above) same)
              (so.each above k' below inner)

  pub all_right : (parts stays : List (List Line)) → AllZip (AreLeftOf c.scanning) parts stays → lines ≡ laid parts → others ≡ laid stays → AreRight c others
  all_right parts stays h is is' =
      let so = all_so parts stays h [] [] (left_none c.file.grammar) is is' in
      let ends : last_part (laid parts) ≡ OfEnd = ap last_part (sym is) ∙ right.ended in
      record {
        each = λ above k below e. so.each above k below (sym is' ∙ e);
        ended = ap last_part is' ∙ kin_end (last_part (laid stays)) (subst (λ (p : Part). AreKin p (last_part (laid stays))) ends so.whole.part);
      }

-- what is so of right lines is so of a text that passes
pub by_lines : (c : Checked) (text other : List ℕ) (lines others : List Line) → AreLines text lines → AreLines other others → (AreRight c lines → AreRight c others) → Passes c text → Passes c other
by_lines c text other lines others are are' so passes above line below place f fault =
    pass_right c text passes (λ ls ls_are ls_right.
    right_pass c other others are' (so (subst (AreRight c) (one_list (lines_of text) ls lines ls_are are) ls_right)) above line below place f fault)
