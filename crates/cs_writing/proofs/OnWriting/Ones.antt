-- Lists whose members have one partner each, and a list of nothing.
use Rattle.std.proofs.Common.{◌≡◌, List, [], ◌∷◌, ◌++◌, length, refl, ap, ◌∙◌, arith}
use Rattle.std.specs.List.{AllZip}

-- where each member has one partner at most, the partners of a longer list begin with those of its front
pub zip_front : {A B : Type 0} {R : A → B → Type 0} → ((x : A) (a b : B) → R x a → R x b → a ≡ b) → (xs rest : List A) (ys zs : List B) → AllZip R xs ys → AllZip R (xs ++ rest) zs → (more : List B) × (zs ≡ ys ++ more)
zip_front one [] rest [] zs p q = (zs, refl)
zip_front one [] rest (y ∷ ys) zs p q = absurd p
zip_front one (x ∷ xs) rest [] zs p q = absurd p
zip_front one (x ∷ xs) rest (y ∷ ys) [] p q = absurd q
zip_front {A} {B} one (x ∷ xs) rest (y ∷ ys) (z ∷ zs) p q =
    let found = zip_front one xs rest ys zs p.1 q.1 in
    (found.0, ap (λ (l : List B). z ∷ l) found.1 ∙ ap (λ (b : B). b ∷ (ys ++ found.0)) (one x z y q.0 p.0))

pub nothing_in : {A : Type 0} (xs : List A) → length xs ≡ 0 → xs ≡ []
nothing_in [] empty = refl
nothing_in (x ∷ xs) empty = absurd (omega (arith, empty))
