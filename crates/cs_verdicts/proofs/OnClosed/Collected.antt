-- Those of a list that are so, one after another.
use Rattle.std.proofs.Common.{◌≡◌, ℕ, zero, suc, ◌+◌, List, [], ◌∷◌, ◌++◌, refl, sym, ap, ◌∙◌, subst, inl, inr, ⊎_elim, arith}
use Rattle.std.specs.List.{AllZip, range_with_len}
use Rattle.std.proofs.lemmas.List.FromFn.{map-range_with_len_more}
use Rattle.cs_grammar.specs.declared.symbol.Mark.TheVariants.{Token}
use Rattle.cs_goals.specs.Goals.{token_marks}
use Rattle.cs_verdicts.specs.Closed.Closed.{AreThose, numbers}

module _ {A : Type 0} (IsSo : A → Type 0) where
  -- one more at the end of the list, which is so
  those_more : (xs those : List A) (x : A) → AreThose IsSo xs those → IsSo x → AreThose IsSo (xs ++ x ∷ []) (those ++ x ∷ [])
  those_more [] those x are so = inl (so, ([], ap (λ (l : List A). l ++ x ∷ []) are, refl))
  those_more (y ∷ xs) those x are so =
      ⊎_elim
      (λ kept. inl (kept.0, (kept.1.0 ++ x ∷ [], ap (λ (l : List A). l ++ x ∷ []) kept.1.1, those_more xs kept.1.0 x kept.1.2 so)))
      (λ left. inr (left.0, those_more xs those x left.1 so))
      are

  -- or isn't
  pub those_same : (xs those : List A) (x : A) → AreThose IsSo xs those → (IsSo x → ⊥) → AreThose IsSo (xs ++ x ∷ []) those
  those_same [] those x are not_so = inr (not_so, are)
  those_same (y ∷ xs) those x are not_so =
      ⊎_elim
      (λ kept. inl (kept.0, (kept.1.0, kept.1.1, those_same xs kept.1.0 x kept.1.2 not_so)))
      (λ left. inr (left.0, those_same xs those x left.1 not_so))
      are

  -- the same where the longer lists are spelled otherwise
  pub next_so : (xs those : List A) (x : A) (more longer : List A) → more ≡ xs ++ x ∷ [] → longer ≡ those ++ x ∷ [] → AreThose IsSo xs those → IsSo x → AreThose IsSo more longer
  next_so xs those x more longer e f are so =
      subst (λ (l : List A). AreThose IsSo l longer) (sym e) (subst (AreThose IsSo (xs ++ x ∷ [])) (sym f) (those_more xs those x are so))

  pub next_not : (xs those : List A) (x : A) (more : List A) → more ≡ xs ++ x ∷ [] → AreThose IsSo xs those → (IsSo x → ⊥) → AreThose IsSo more those
  next_not xs those x more e are not_so = subst (λ (l : List A). AreThose IsSo l those) (sym e) (those_same xs those x are not_so)

-- partners, with one more of each at the end
zip_more : {A B : Type 0} (R : A → B → Type 0) (xs : List A) (ys : List B) (x : A) (y : B) → AllZip R xs ys → R x y → AllZip R (xs ++ x ∷ []) (ys ++ y ∷ [])
zip_more R [] [] x y zip last = (last, tt)
zip_more R [] (b ∷ ys) x y zip last = absurd zip
zip_more R (a ∷ xs) [] x y zip last = absurd zip
zip_more R (a ∷ xs) (b ∷ ys) x y zip last = (zip.0, zip_more R xs ys x y zip.1 last)

pub next_partner : {A B : Type 0} (R : A → B → Type 0) (xs : List A) (ys : List B) (x : A) (y : B) (more : List A) (longer : List B) → more ≡ xs ++ x ∷ [] → longer ≡ ys ++ y ∷ []
    → AllZip R xs ys → R x y → AllZip R more longer
next_partner {A} {B} R xs ys x y more longer e f zip last =
    subst (λ (l : List A). AllZip R l longer) (sym e) (subst (AllZip R (xs ++ x ∷ [])) (sym f) (zip_more R xs ys x y zip last))

range_more : (a n : ℕ) → range_with_len a (suc n) ≡ range_with_len a n ++ (a + n) ∷ []
range_more a zero = let e : a ≡ a + 0 = omega arith in ap (λ (k : ℕ). k ∷ []) e
range_more a (suc n) =
    let e : a + 1 + n ≡ a + suc n = omega arith in
    ap (λ (l : List ℕ). a ∷ l) (range_more (a + 1) n ∙ ap (λ (k : ℕ). range_with_len (a + 1) n ++ k ∷ []) e)

-- one number more
pub numbers_more : (n : ℕ) → numbers (n + 1) ≡ numbers n ++ (n + 1) ∷ []
numbers_more n =
    let e : n + 1 ≡ suc n = omega arith in
    let f : 1 + n ≡ n + 1 = omega arith in
    ap numbers e ∙ range_more 1 n ∙ ap (λ (k : ℕ). numbers n ++ k ∷ []) f

pub marks_more : (n : ℕ) → token_marks (n + 1) ≡ token_marks n ++ Token (n + 1) ∷ []
marks_more n = map-range_with_len_more Token 1 n (n + 1) (omega arith)
