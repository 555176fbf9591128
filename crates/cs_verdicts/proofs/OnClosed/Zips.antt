-- Lists of partners, place by place.
use Rattle.std.proofs.Common.{◌≡◌, List, [], ◌∷◌, refl, ap, ◌∙◌}
use Rattle.std.specs.List.{AllZip}

-- where each member has one partner at most, so has a list
pub one_zip : {A B : Type 0} {R : A → B → Type 0} → ((x : A) (a b : B) → R x a → R x b → a ≡ b) → (xs : List A) (ys zs : List B) → AllZip R xs ys → AllZip R xs zs → ys ≡ zs
one_zip one [] [] [] p q = refl
one_zip one [] [] (z ∷ zs) p q = absurd q
one_zip one [] (y ∷ ys) zs p q = absurd p
one_zip one (x ∷ xs) [] zs p q = absurd p
one_zip one (x ∷ xs) (y ∷ ys) [] p q = absurd q
one_zip {A} {B} one (x ∷ xs) (y ∷ ys) (z ∷ zs) p q =
    ap (λ (b : B). b ∷ ys) (one x y z p.0 q.0) ∙ ap (λ (bs : List B). z ∷ bs) (one_zip one xs ys zs p.1 q.1)
