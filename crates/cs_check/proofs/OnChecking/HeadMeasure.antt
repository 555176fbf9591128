-- How trees are measured by the lines of the head.
use Rattle.std.proofs.Common.{◌≡◌, ℕ, ◌≤◌, List, [], ◌∷◌, ◌++◌, Option, Some, None, length, map, replicate, refl, sym, ap, ◌∙◌, subst, ⊎_elim, inl, inr, arith}
use Rattle.std.specs.Prelude.{All, slice_get}
use Rattle.std.specs.Option.{option_map}
use Rattle.std.proofs.lemmas.List.{map_push}
use Rattle.std.proofs.lemmas.List.Elements.{All-nil, All-cons}
use Rattle.cs_choices.specs.declared.weigh.Weigh.{Weigh}
use Rattle.cs_choices.specs.declared.weigh.Weigh.TheVariants.{Nodes, Bytes}
use Rattle.cs_grammar.specs.Weights.{Measure, byte_weight}
use Rattle.cs_lines.specs.Lines.Line.{Line, Weighing, LexemeLine}
use Rattle.cs_check.specs.Passing.Above.{weigh_in, lexeme_in, weighs, lexemes}
use Rattle.cs_check.specs.Passing.Entries.{measured, IsMeasured}
use Rattle.cs_check.specs.Checking.Head.{number_by, TellsMeasure}
use Rattle.cs_check.proofs.OnChecking.Told.{kept, added}

module _ (above : List Line) (w : Weigh) (ns : List ℕ) (h : TellsMeasure above w ns) where
  -- a line that says nothing of it
  pub measure_kept : (l : Line) → weigh_in l ≡ None → lexeme_in l ≡ None → TellsMeasure (above ++ l ∷ []) w ns
  measure_kept l e f =
      let same = kept weigh_in above l e in
      let texts = kept lexeme_in above l f in
      ⊎_elim (λ none. inl (same ∙ none.0, texts ∙ none.1, none.2))
      (λ some. inr (same ∙ some.0, some.1 ∙ ap (λ (x : List (Option (List ℕ))). map (number_by w) x) (sym texts))) h

  -- the line that says what sizes count
  pub measure_told : (l : Line) (v : Weigh) → l ≡ Weighing v → length (weighs above) ≡ 0 → TellsMeasure (above ++ l ∷ []) v ns
  measure_told l v e few =
      let more = added weigh_in above l v (ap weigh_in e) in
      let texts = kept lexeme_in above l (ap lexeme_in e) in
      ⊎_elim (λ none. inr (
        more ∙ ap (λ (x : List Weigh). x ++ v ∷ []) none.0,
        none.2 ∙ ap (λ (x : List (Option (List ℕ))). map (number_by v) x) (sym (texts ∙ none.1)),
      ))
      (λ some. let one = ap (λ (x : List Weigh). length x) some.0 in absurd (omega (arith, one, few))) h

  -- the text of a token
  pub measure_added : (l : Line) (name : List ℕ) (text : Option (List ℕ)) → l ≡ LexemeLine name text → length (weighs above) ≡ 1 → TellsMeasure (above ++ l ∷ []) w (ns ++ number_by w text ∷ [])
  measure_added l name text e one =
      let same = kept weigh_in above l (ap weigh_in e) in
      let texts = added lexeme_in above l text (ap lexeme_in e) in
      ⊎_elim (λ none. let no = ap (λ (x : List Weigh). length x) none.0 in absurd (omega (arith, one, no)))
      (λ some. inr (
        same ∙ some.0,
        ap (λ (x : List ℕ). x ++ number_by w text ∷ []) some.1
            ∙ sym (map_push (number_by w) (lexemes above) text)
            ∙ ap (λ (x : List (Option (List ℕ))). map (number_by w) x) (sym texts),
      )) h

-- ---- the measure

all_ones : (texts : List (Option (List ℕ))) → replicate (length texts) 1 ≡ map (number_by Nodes) texts
all_ones [] = refl
all_ones (text ∷ texts) = ap (λ (x : List ℕ). 1 ∷ x) (all_ones texts)

numbers_are : (w : Weigh) (texts : List (Option (List ℕ))) → (measured w texts).numbers ≡ map (number_by w) texts
numbers_are Nodes texts = all_ones texts
numbers_are Bytes texts = refl

low_weight : (length : Option ℕ) → byte_weight length ≤ 1000000
low_weight None = omega arith
low_weight (Some n) = omega arith

low_number : (w : Weigh) (text : Option (List ℕ)) → number_by w text ≤ 1000000
low_number Nodes text = omega arith
low_number Bytes text = low_weight (option_map length text)

low_numbers : (w : Weigh) (texts : List (Option (List ℕ))) → All (λ n. n ≤ 1000000) (map (number_by w) texts)
low_numbers w [] = All-nil (λ (n : ℕ). n ≤ 1000000)
low_numbers w (text ∷ texts) = All-cons (λ (n : ℕ). n ≤ 1000000) (number_by w text) (map (number_by w) texts) (low_number w text) (low_numbers w texts)

module _ (above : List Line) (w : Weigh) (ns : List ℕ) (h : TellsMeasure above w ns) where
  pub measure_known : length (weighs above) ≡ 1 → (m : Measure) × IsMeasured above m × (m.numbers ≡ ns) × All (λ n. n ≤ 1000000) m.numbers
  measure_known one =
      ⊎_elim (λ none. let no = ap (λ (x : List Weigh). length x) none.0 in absurd (omega (arith, one, no)))
      (λ some.
      let m = measured w (lexemes above) in
      let are = numbers_are w (lexemes above) in
      let first : slice_get (weighs above) 0 ≡ Some w = ap (λ (x : List Weigh). slice_get x 0) some.0 in (
        m,
        (w, (omega arith, first), refl),
        are ∙ sym some.1,
        subst (λ (x : List ℕ). All (λ n. n ≤ 1000000) x) (sym are) (low_numbers w (lexemes above)),
      )) h
