-- Entries of a list, with numbers.
use Rattle.std.proofs.Common.{◌≡◌, ◌<◌, ℕ, ◌+◌, List, [], ◌∷◌, ◌++◌, length, get_or, sym, ap, ◌∙◌, subst, arith, append_assoc}
use Rattle.std.specs.Prelude.{All}
use Rattle.std.proofs.lemmas.List.Elements.{All-get_or}
use Rattle.cs_manifest.specs.Output.Words.{numbered_from}

-- the lines of two lists, one behind the other
pub numbered_both : {A : Type 0} (f : ℕ → A → List ℕ) (n : ℕ) (xs ys : List A) → numbered_from n f (xs ++ ys) ≡ numbered_from n f xs ++ numbered_from (n + length xs) f ys
numbered_both f n [] ys = let e : n ≡ n + 0 = omega arith in ap (λ (k : ℕ). numbered_from k f ys) e
numbered_both {A} f n (x ∷ xs) ys =
    let e : n + 1 + length xs ≡ n + length (x ∷ xs) = omega arith in
    ap (λ (l : List ℕ). f n x ++ l) (numbered_both f (n + 1) xs ys ∙ ap (λ (k : ℕ). numbered_from (n + 1) f xs ++ numbered_from k f ys) e)
    ∙ sym (append_assoc (f n x) (numbered_from (n + 1) f xs) (numbered_from (n + length (x ∷ xs)) f ys))

-- what holds of each holds of the one at a place
pub at_place : {A : Type 0} (P : A → Type 0) (list : List A) (i : ℕ) (x : A) → i < length list → x ≡ get_or list i x → All P list → P x
at_place P list i x within is all = subst P (sym is) (All-get_or P list i x within all)
