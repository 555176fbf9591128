-- The list of a list's negatives.
use Rattle.std.proofs.Common.{◌≡◌, ℕ, List, [], ◌∷◌, ◌++◌, refl, sym, ap, ◌∙◌, subst, ⊎_elim, inl, inr, ◌↔◌}
use Rattle.std.specs.List.{All, Contains}
use Rattle.std.proofs.lemmas.Bool.{cases_order}
use Rattle.std.proofs.lemmas.List.Elements.{All-head, All-tail}
use Rattle.cs_grammar.specs.declared.symbol.Mark.{Mark}
use Rattle.cs_grammar.specs.Grammar.{PlainGrammar}
use Rattle.cs_goals.proofs.Members.{Among, Contains-from_Among, Among-from_Contains}
use Rattle.cs_mutate.specs.declared.edit.Edit.{Edit}
use Rattle.cs_mutate.specs.declared.negative.Negative.{Negative}
use Rattle.cs_mutate.specs.Poison.{IsFirstPoisoned}
use Rattle.cs_mutate.specs.Negatives.{IsHarmless, IsNegative, AreNegatives, IsNext}
use Rattle.cs_mutate.proofs.Marks.{one_pair}

-- a list of marks has one first poisoned pair
same_place : (g : PlainGrammar) (marks : List Mark) (k : ℕ) (a b x y : Mark) → IsFirstPoisoned g marks k a b → IsFirstPoisoned g marks k x y → (a ≡ x) × (b ≡ y)
same_place g marks k a b x y p q = one_pair marks k a b x y p.pair.left p.pair.right q.pair

one_place : (g : PlainGrammar) (marks : List Mark) (j k : ℕ) (a b x y : Mark) → IsFirstPoisoned g marks j a b → IsFirstPoisoned g marks k x y → j ≡ k
one_place g marks j k a b x y p q =
    ⊎_elim (λ same. same)
    (λ apart. ⊎_elim (λ below. absurd (p.poisoned (q.earlier j a b below p.pair))) (λ above. absurd (q.poisoned (p.earlier k x y above q.pair))) apart)
    (cases_order j k)

same_parts : (n m : Negative) → n.edit ≡ m.edit → n.left ≡ m.left → n.right ≡ m.right → n.at ≡ m.at → n ≡ m
same_parts n m edit left right at =
    ap (λ (e : Edit). record n { edit = e }) edit
    ∙ ap (λ (a : Mark). record { edit = m.edit; left = a; right = n.right; at = n.at }) left
    ∙ ap (λ (b : Mark). record { edit = m.edit; left = m.left; right = b; at = n.at }) right
    ∙ ap (λ (k : ℕ). record { edit = m.edit; left = m.left; right = m.right; at = k }) at

module _ (g : PlainGrammar) (w : List ℕ) where
  -- an edit has one negative
  one_negative : (n m : Negative) → n.edit ≡ m.edit → IsNegative g w n → IsNegative g w m → n ≡ m
  one_negative n m same p q =
      let p' = subst (λ (e : Edit). IsNegative g w (record n { edit = e })) same p in
      let at = one_place g _ n.at m.at n.left n.right m.left m.right p' q in
      let marks = same_place g _ m.at n.left n.right m.left m.right (subst (λ k. IsNegative g w (record { edit = m.edit; left = n.left; right = n.right; at = k })) at p') q in
      same_parts n m same marks.0 marks.1 at

  not_both : (n : Negative) → IsNegative g w n → IsHarmless g w n.edit → ⊥
  not_both n p harmless = p.poisoned (harmless n.at n.left n.right p.pair)

  pub begins : (skipped rest : List Edit) (ns : List Negative) → All (IsHarmless g w) skipped → AreNegatives g w rest ns → AreNegatives g w (skipped ++ rest) ns
  begins [] rest ns harmless are = are
  begins (e ∷ skipped) rest ns harmless are =
      inl (All-head (IsHarmless g w) e skipped harmless, begins skipped rest ns (All-tail (IsHarmless g w) e skipped harmless) are)

  pub next : (old : List Edit) (n : Negative) (new : List Edit) → IsNext g w old n new → (rest : List Negative) → AreNegatives g w new rest → AreNegatives g w old (n ∷ rest)
  next old n new h rest are =
      subst (λ (l : List Edit). AreNegatives g w l (n ∷ rest)) (sym h.edits)
      (begins h.skipped (n.edit ∷ new) (n ∷ rest) h.harmless (inr (n, rest, refl, refl, h.negative, are)))

  pub done : (old : List Edit) → All (IsHarmless g w) old → AreNegatives g w old []
  done [] harmless = refl
  done (e ∷ old) harmless = inl (All-head (IsHarmless g w) e old harmless, done old (All-tail (IsHarmless g w) e old harmless))

  pub one_list : (es : List Edit) (a b : List Negative) → AreNegatives g w es a → AreNegatives g w es b → a ≡ b
  one_list [] a b p q = p ∙ sym q
  one_list (e ∷ es) a b p q =
      ⊎_elim
      (λ left.
      ⊎_elim (λ h. one_list es a b left.1 h.1)
      (λ h. absurd (not_both h.0 h.4 (subst (IsHarmless g w) (sym h.3) left.0)))
      q)
      (λ kept.
      ⊎_elim (λ h. absurd (not_both kept.0 kept.4 (subst (IsHarmless g w) (sym kept.3) h.0)))
      (λ h.
      let rests = one_list es kept.1 h.1 kept.5 h.5 in
      let firsts = one_negative kept.0 h.0 (kept.3 ∙ sym h.3) kept.4 h.4 in
      kept.2 ∙ ap (λ (n : Negative). n ∷ kept.1) firsts ∙ ap (λ (l : List Negative). h.0 ∷ l) rests ∙ sym h.2)
      q)
      p

  listed : (es : List Edit) (ns : List Negative) → AreNegatives g w es ns → (n : Negative) → Among n ns → Among n.edit es × IsNegative g w n
  listed [] ns are n h = absurd (subst (λ (l : List Negative). Among n l) are h)
  listed (e ∷ es) ns are n h =
      ⊎_elim
      (λ left. let r = listed es ns left.1 n h in (inr r.0, r.1))
      (λ kept.
      ⊎_elim
      (λ here. (inl (ap (λ (m : Negative). m.edit) here ∙ kept.3), subst (IsNegative g w) (sym here) kept.4))
      (λ later. let r = listed es kept.1 kept.5 n later in (inr r.0, r.1))
      (subst (λ (l : List Negative). Among n l) kept.2 h))
      are

  none_missing : (es : List Edit) (ns : List Negative) → AreNegatives g w es ns → (n : Negative) → Among n.edit es → IsNegative g w n → Among n ns
  none_missing [] ns are n h negative = absurd h
  none_missing (e ∷ es) ns are n h negative =
      ⊎_elim
      (λ left.
      ⊎_elim (λ here. absurd (not_both n negative (subst (IsHarmless g w) (sym here) left.0)))
      (λ later. none_missing es ns left.1 n later negative)
      h)
      (λ kept.
      subst (λ (l : List Negative). Among n l) (sym kept.2)
      (⊎_elim (λ here. inl (one_negative n kept.0 (here ∙ sym kept.3) negative kept.4))
      (λ later. inr (none_missing es kept.1 kept.5 n later negative))
      h))
      are

  pub members : (es : List Edit) (ns : List Negative) (n : Negative) → AreNegatives g w es ns → Contains ns n ↔ (Contains es n.edit × IsNegative g w n)
  members es ns n are = (
    λ h. let r = listed es ns are n (Among-from_Contains n ns h) in (Contains-from_Among n.edit es r.0, r.1),
    λ h. Contains-from_Among n ns (none_missing es ns are n (Among-from_Contains n.edit es h.0) h.1),
  )
