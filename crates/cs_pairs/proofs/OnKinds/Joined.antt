-- How a kind falls on the two parts of a joined list of tokens.
use Rattle.std.proofs.Common.{◌≡◌, ℕ, ◌⊎◌, List, [], ◌∷◌, ◌++◌, refl, sym, ap, ◌∙◌, inl, inr, ⊎_elim, append_assoc, append-nil}
use Rattle.cs_pairs.specs.declared.kinds.kind.TreeKind.{TreeKind}
use Rattle.cs_pairs.specs.declared.kinds.kind.TreeKind.TheVariants.{Any, Empty, Begins, Ends}
use Rattle.cs_pairs.specs.Kinds.Kinds.{IsOfKind, before, behind}

-- lists whose join is empty are empty
empty_parts : (u v : List ℕ) → u ++ v ≡ [] → (u ≡ []) × (v ≡ [])
empty_parts [] v e = (refl, e)
empty_parts (x ∷ u) v e = absurd cc

-- the first token of a join is that of the first list, or this is empty
first_part : (u v rest : List ℕ) (b : ℕ) → u ++ v ≡ b ∷ rest → ((more : List ℕ) × (u ≡ b ∷ more)) ⊎ ((u ≡ []) × (v ≡ b ∷ rest))
first_part [] v rest b e = inr (refl, e)
first_part (x ∷ u) v rest b e = let same : x ≡ b = cc in inl (u, ap (λ n. n ∷ u) same)

-- a list with an item has a last one
pub last_item : {A : Type 0} (x : A) (xs : List A) → (init : List A) × (last : A) × (x ∷ xs ≡ init ++ last ∷ [])
last_item x [] = ([], x, refl)
last_item {A} x (y ∷ xs) = let end = last_item y xs in (x ∷ end.0, end.1, ap (λ (l : List A). x ∷ l) end.2)

-- lists that are the same with one more item behind are the same, and so are these items
pub same_ends : {A : Type 0} (xs ys : List A) (x y : A) → xs ++ x ∷ [] ≡ ys ++ y ∷ [] → (xs ≡ ys) × (x ≡ y)
same_ends [] [] x y e = (refl, cc)
same_ends [] (w ∷ []) x y e = absurd cc
same_ends [] (w ∷ z ∷ ys) x y e = absurd cc
same_ends (v ∷ []) [] x y e = absurd cc
same_ends (v ∷ z ∷ xs) [] x y e = absurd cc
same_ends (v ∷ xs) (w ∷ ys) x y e =
    let tails : xs ++ x ∷ [] ≡ ys ++ y ∷ [] = cc in
    let heads : v ≡ w = cc in
    let others = same_ends xs ys x y tails in
    (let same = others.0 in cc, others.1)

-- the last token of a join is that of the second list, or this is empty
last_part : (u v rest : List ℕ) (a : ℕ) → u ++ v ≡ rest ++ a ∷ [] → ((v ≡ []) × (u ≡ rest ++ a ∷ [])) ⊎ ((more : List ℕ) × (v ≡ more ++ a ∷ []))
last_part u [] rest a e = inl (refl, sym (append-nil u) ∙ e)
last_part u (y ∷ v) rest a e =
    let end = last_item y v in
    let whole = append_assoc u end.0 (end.1 ∷ []) ∙ ap (λ (l : List ℕ). u ++ l) (sym end.2) ∙ e in
    let same = same_ends (u ++ end.0) rest end.1 a whole in
    inr (end.0, end.2 ∙ ap (λ n. end.0 ++ n ∷ []) same.1)

-- the two ways in which a join is of a kind
pub joined_cases : (k : TreeKind) (u v : List ℕ) → IsOfKind k (u ++ v) → (IsOfKind k u × IsOfKind (behind k) v) ⊎ (IsOfKind (before k) u × IsOfKind k v)
joined_cases Any u v h = inl (tt, tt)
joined_cases Empty u v h = inl (empty_parts u v h)
joined_cases (Begins b) u v h = ⊎_elim (λ here. inl (here, tt)) (λ later. inr (later.0, (h.0, later.1))) (first_part u v h.0 b h.1)
joined_cases (Ends a) u v h = ⊎_elim (λ here. inl ((h.0, here.1), here.0)) (λ later. inr (tt, later)) (last_part u v h.0 a h.1)

-- and each makes it so
pub joined_here : (k : TreeKind) (u v : List ℕ) → IsOfKind k u → IsOfKind (behind k) v → IsOfKind k (u ++ v)
joined_here Any u v hu hv = tt
joined_here Empty u v hu hv = ap (λ (l : List ℕ). l ++ v) hu ∙ hv
joined_here (Begins b) u v hu hv = (hu.0 ++ v, ap (λ (l : List ℕ). l ++ v) hu.1)
joined_here (Ends a) u v hu hv = (hu.0, ap (λ (l : List ℕ). u ++ l) hv ∙ append-nil u ∙ hu.1)

pub joined_later : (k : TreeKind) (u v : List ℕ) → IsOfKind (before k) u → IsOfKind k v → IsOfKind k (u ++ v)
joined_later Any u v hu hv = tt
joined_later Empty u v hu hv = ap (λ (l : List ℕ). l ++ v) hu ∙ hv
joined_later (Begins b) u v hu hv = (hv.0, ap (λ (l : List ℕ). l ++ v) hu ∙ hv.1)
joined_later (Ends a) u v hu hv = (u ++ hv.0, ap (λ (l : List ℕ). u ++ l) hv.1 ∙ sym (append_assoc u hv.0 (a ∷ [])))
