-- Words have one first bad place at most, and accepted words have none.
use Rattle.std.proofs.Common.{◌≡◌, ◌⊎◌, ◌<◌, ◌≤◌, ℕ, List, [], ◌∷◌, ◌++◌, length, refl, sym, ap, ◌∙◌, subst, inl, inr, arith, append_assoc, append-nil}
use Rattle.std.proofs.lemmas.Bool.{cases_lt}
use Rattle.cs_words.specs.Words.{CannotGoOn, IsAccepted, IsComplete, IsFirstBad, MayStand, StandBehind}

-- a word among those that stand may stand behind those before it
stands_there : (before xs : List (List ℕ)) (word : List ℕ) (after : List (List ℕ)) → StandBehind before (xs ++ word ∷ after) → MayStand (before ++ xs) word
stands_there before [] word after stand = subst (λ b. MayStand b word) (sym (append-nil before)) stand.0
stands_there before (x ∷ xs) word after stand =
    subst (λ b. MayStand b word) (append_assoc before (x ∷ []) xs) (stands_there (before ++ x ∷ []) xs word after stand.1)

pub bad_not_accepted : (words : List (List ℕ)) (at : ℕ) → IsFirstBad words at → IsAccepted words → ⊥
bad_not_accepted words at bad accepted = go bad.after bad.split bad.bad
  where
    go : (after : List (List ℕ)) → words ≡ bad.before ++ after → CannotGoOn bad.before after → ⊥
    go [] split none = none (subst (λ ws. IsComplete ws) (split ∙ append-nil bad.before) accepted.complete)
    go (word ∷ after) split none = none (stands_there [] bad.before word after (subst (λ ws. StandBehind [] ws) split accepted.stand))

-- of two beginnings of one list, the longer one goes on where the shorter ends
longer : (xs ys us vs : List (List ℕ)) → xs ++ ys ≡ us ++ vs → length xs < length us → (word : List ℕ) × (rest : List (List ℕ)) × (more : List (List ℕ)) × (us ≡ xs ++ word ∷ rest) × (ys ≡ word ∷ more)
longer [] ys [] vs same short = absurd (omega arith)
longer [] ys (u ∷ us) vs same short = (u, us, us ++ vs, refl, same)
longer (x ∷ xs) ys [] vs same short = absurd (omega arith)
longer (x ∷ xs) ys (u ∷ us) vs same short =
    let tails : xs ++ ys ≡ us ++ vs = cc in
    let heads : u ≡ x = cc in
    let l = longer xs ys us vs tails (omega arith) in
    (l.0, l.1, l.2, ap (λ w. w ∷ us) heads ∙ ap (λ ws. x ∷ ws) l.3, l.4)

-- a place before another bad one isn't bad
earlier : (words : List (List ℕ)) (a b : ℕ) → IsFirstBad words a → IsFirstBad words b → a < b → ⊥
earlier words a b x y short =
    let l = longer x.before x.after y.before y.after (sym x.split ∙ y.split) (omega (arith, x.place, y.place)) in
    let bad : CannotGoOn x.before (l.0 ∷ l.2) = subst (λ ws. CannotGoOn x.before ws) l.4 x.bad in
    bad (stands_there [] x.before l.0 l.1 (subst (λ ws. StandBehind [] ws) l.3 y.stand))

pub one_bad : (words : List (List ℕ)) (a b : ℕ) → IsFirstBad words a → IsFirstBad words b → a ≡ b
one_bad words a b x y = by_order (cases_lt a b) (cases_lt b a)
  where
    by_order : (a < b) ⊎ (b ≤ a) → (b < a) ⊎ (a ≤ b) → a ≡ b
    by_order (inl first) other = absurd (earlier words a b x y first)
    by_order (inr above) (inl second) = absurd (earlier words b a y x second)
    by_order (inr above) (inr below) = omega arith
