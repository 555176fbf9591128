-- Members of a list, each with those before it.
use Rattle.std.proofs.Common.{◌≡◌, List, [], ◌∷◌, ◌++◌, append_assoc, length, refl, sym, ap, ◌∙◌, arith}
use Rattle.std.proofs.lemmas.List.{append-nil}
use Rattle.cs_wrong.specs.Classes.Classes.{behind}

-- two lists behind others, one behind the other
pub behind_both : {A : Type 0} (before xs ys : List A) → behind before (xs ++ ys) ≡ behind before xs ++ behind (before ++ xs) ys
behind_both before [] ys = ap (λ l. behind l ys) (sym (append-nil before))
behind_both before (x ∷ xs) ys =
    ap (λ l. (before, x) ∷ l) (behind_both (before ++ x ∷ []) xs ys ∙ ap (λ l. behind (before ++ x ∷ []) xs ++ behind l ys) (append_assoc before (x ∷ []) xs))

pub length-behind : {A : Type 0} (before xs : List A) → length (behind before xs) ≡ length xs
length-behind before [] = refl
length-behind before (x ∷ xs) = omega (arith, length-behind (before ++ x ∷ []) xs)
