-- Texts that pass still do where texts are exchanged and negatives go.
use Rattle.std.proofs.Common.{◌≡◌, ℕ, ◌+◌, List, [], ◌∷◌, ◌++◌, Option, length, map, refl, sym, ap, ◌∙◌, subst, ⊎_elim, inl, inr}
use Rattle.std.specs.List.{AllZip, cons_option}
use Rattle.cs_lines.specs.Words.Edits.{EditWords}
use Rattle.cs_lines.specs.Lines.Line.{Counts, Line, TextLine, NegativeLine, EndLine}
use Rattle.cs_check.specs.declared.passing.fault.ClaimFault.TheVariants.{Form, Totals}
use Rattle.cs_check.specs.Passing.Above.{edit_in, edits}
use Rattle.cs_check.specs.Passing.Faults.{Checked}
use Rattle.cs_check.specs.Passing.Passing.{Passes}
use Rattle.cs_check.specs.Passing.Manifest.{AreLines}
use Rattle.cs_check.specs.Passing.Changes.{laid, IsExchanged, AreOfNegative, IsStaying, AreKept, AreFewer}
use Rattle.cs_check.specs.Checking.Judging.{IsRight}
use Rattle.cs_check.proofs.OnPassing.Behind.{body_behind}
use Rattle.cs_check.proofs.OnPassing.Splits.{no_line}
use Rattle.cs_check.proofs.OnPassing.Changed.{exchanged, renumbered}
use Rattle.cs_check.proofs.OnPassing.Staying.{IsCounted}
use Rattle.cs_check.proofs.OnPassing.AllRight.{AreLeftOf, all_right, by_lines}

-- ---- negatives

pub negatives_go : (c : Checked) (text other : List ℕ) (lines others : List Line) → AreLines text lines → AreLines other others → AreFewer lines others → Passes c text → Passes c other
negatives_go c text other lines others are are' fewer passes =
    by_lines c text other lines others are are'
    (λ right. all_right c lines others right (λ above k below e. counted_so above k below e) fewer.parts fewer.stays (parts_so fewer.parts fewer.stays fewer.kept) fewer.whole fewer.rest)
    passes
  where
    counted_so : (above : List Line) (k : Line) (below : List Line) → others ≡ above ++ k ∷ below → IsCounted above k
    counted_so above (NegativeLine n base edit left right at) below e = fewer.numbered.negatives above below n base edit left right at e
    counted_so above (EndLine counts) below e = fewer.numbered.count above below counts e
    counted_so above k below e = tt

    parts_so : (parts stays : List (List Line)) → AllZip AreKept parts stays → AllZip (AreLeftOf c.scanning) parts stays
    parts_so [] [] h = tt
    parts_so [] (stay ∷ stays) h = absurd h
    parts_so (part ∷ parts) [] h = absurd h
    parts_so (part ∷ parts) (stay ∷ stays) h = (
      ⊎_elim (λ (gone : AreOfNegative part × (stay ≡ [])). inl gone)
          (λ (s : IsStaying part stay). inr (s.l, s.k, s.was, s.is, renumbered c.scanning s.l s.k s.renumbered))
          h.0,
      parts_so parts stays h.1,
    )

-- ---- texts

abbrev singles : List Line → List (List Line)
singles lines = map (λ (l : Line). l ∷ []) lines

singles_whole : (lines : List Line) → lines ≡ laid (singles lines)
singles_whole [] = refl
singles_whole (l ∷ lines) = ap (λ (s : List Line). l ∷ s) (singles_whole lines)

module _ (c : Checked) where
  singles_so : (lines others : List Line) → AllZip (IsExchanged c.scanning) lines others → AllZip (AreLeftOf c.scanning) (singles lines) (singles others)
  singles_so [] [] h = tt
  singles_so [] (k ∷ others) h = absurd h
  singles_so (l ∷ lines) [] h = absurd h
  singles_so (l ∷ lines) (k ∷ others) h = (inr (l, k, refl, refl, exchanged c.scanning l k h.0), singles_so lines others h.1)

  -- the same edits are above
  same_edit : (l k : Line) → IsExchanged c.scanning l k → edit_in k ≡ edit_in l
  same_edit (TextLine text) k h = ap edit_in h.1
  same_edit l k h = ap edit_in h

  same_edits : (lines others : List Line) → AllZip (IsExchanged c.scanning) lines others → edits others ≡ edits lines
  same_edits [] [] h = refl
  same_edits [] (k ∷ others) h = absurd h
  same_edits (l ∷ lines) [] h = absurd h
  same_edits (l ∷ lines) (k ∷ others) h =
      ap (λ (o : Option EditWords). cons_option o (edits others)) (same_edit l k h.0)
      ∙ ap (λ (s : List EditWords). cons_option (edit_in l) s) (same_edits lines others h.1)

  record WasAt (lines above : List Line) (k : Line) : Type 0 where
    before : List Line
    line : Line
    behind : List Line
    place : lines ≡ before ++ line ∷ behind
    same_above : AllZip (IsExchanged c.scanning) before above
    same : IsExchanged c.scanning line k

  was_at : (lines others : List Line) → AllZip (IsExchanged c.scanning) lines others → (above : List Line) (k : Line) (below : List Line) → others ≡ above ++ k ∷ below → WasAt lines above k
  was_at [] [] h above k below e = absurd (no_line above k below e)
  was_at [] (x ∷ others) h above k below e = absurd h
  was_at (l ∷ lines) [] h above k below e = absurd h
  was_at (l ∷ lines) (x ∷ others) h [] k below e =
      let same : x ≡ k = cc in
      record { before = []; line = l; behind = lines; place = refl; same_above = tt; same = subst (IsExchanged c.scanning l) same h.0 }
  was_at (l ∷ lines) (x ∷ others) h (y ∷ above) k below e =
      let same : x ≡ y = cc in
      let inner : others ≡ above ++ k ∷ below = cc in
      let at = was_at lines others h.1 above k below inner in
      record {
        before = l ∷ at.before;
        line = at.line;
        behind = at.behind;
        place = ap (λ (s : List Line). l ∷ s) at.place;
        same_above = (subst (IsExchanged c.scanning l) same h.0, at.same_above);
        same = at.same;
      }

  right_counted : (above : List Line) (l : Line) → IsRight c above l → IsCounted above l
  right_counted above (NegativeLine n base edit left r at) right = (body_behind c.file.grammar above (NegativeLine n base edit left r at) refl (right Form)).numbered
  right_counted above (EndLine counts) right = ap (λ (x : Counts). x.negatives) (right Totals)
  right_counted above l right = tt

  counted_same : (above other : List Line) (l k : Line) → edits other ≡ edits above → IsExchanged c.scanning l k → IsCounted above l → IsCounted other k
  counted_same above other (NegativeLine n base edit left right at) k e h so =
      subst (IsCounted other) (sym h) (so ∙ ap (λ (s : List EditWords). length s + 1) (sym e))
  counted_same above other (EndLine counts) k e h so = subst (IsCounted other) (sym h) (so ∙ ap (λ (s : List EditWords). length s) (sym e))
  counted_same above other (TextLine text) k e h so = subst (IsCounted other) (sym h.1) tt
  counted_same above other l k e h so = subst (IsCounted other) (sym h) tt

  pub texts_change : (text other : List ℕ) (lines others : List Line) → AreLines text lines → AreLines other others → AllZip (IsExchanged c.scanning) lines others → Passes c text → Passes c other
  texts_change text other lines others are are' same passes =
      by_lines c text other lines others are are'
      (λ right.
      all_right c lines others right
      (λ above k below e.
      let at = was_at lines others same above k below e in
      counted_same at.before above at.line k (same_edits at.before above at.same_above) at.same
      (right_counted at.before at.line (right.each at.before at.line at.behind at.place)))
      (singles lines) (singles others) (singles_so lines others same) (singles_whole lines) (singles_whole others))
      passes
