-- Rows of costs, one for each token.
use Rattle.std.proofs.Common.{◌≡◌, ℕ, zero, suc, ◌+◌, ◌-◌, ◌<◌, ◌≤◌, List, [], ◌∷◌, ◌++◌, length, get_or, refl, ap, sym, ◌∙◌, subst, ⊎_elim, arith, length-append}
use Rattle.std.proofs.lemmas.Bool.{cases_eq}
use Rattle.std.proofs.lemmas.List.{get_or_default}
use Rattle.cs_grammar.specs.Grammar.{IsNumberOf}
use Rattle.cs_least.specs.declared.cost.cost.Cost.{Cost}
use Rattle.cs_pairs.specs.Kinds.Tables.{row_in}

pub get_before : {A : Type 0} (rows : List A) (row : A) (i : ℕ) (d : A) → i < length rows → get_or (rows ++ row ∷ []) i d ≡ get_or rows i d
get_before [] row i d h = absurd (omega arith)
get_before (r ∷ rows) row zero d h = refl
get_before (r ∷ rows) row (suc i) d h = get_before rows row i d (omega arith)

pub get_last : {A : Type 0} (rows : List A) (row d : A) → get_or (rows ++ row ∷ []) (length rows) d ≡ row
get_last [] row d = refl
get_last (r ∷ rows) row d = get_last rows row d

row_before : (rows : List (List Cost)) (row : List Cost) (n : ℕ) → n ≤ length rows → row_in (rows ++ row ∷ []) n ≡ row_in rows n
row_before rows row zero h = refl
row_before rows row (suc n) h = get_before rows row n [] (omega arith)

row_last : (rows : List (List Cost)) (row : List Cost) (n : ℕ) → n ≡ length rows → row_in (rows ++ row ∷ []) (n + 1) ≡ row
row_last rows row n e =
    let next : n + 1 ≡ suc n = omega arith in
    ap (row_in (rows ++ row ∷ [])) next ∙ ap (λ m. get_or (rows ++ row ∷ []) m []) e ∙ get_last rows row []

-- where the first so many rows are right, and one more is put behind them, so are all
module _ (IsRight : ℕ → List Cost → Type 0) (count : ℕ) (rows : List (List Cost)) (row : List Cost) where
  pub rows_more : length rows ≡ count → ((n : ℕ) → IsNumberOf count n → IsRight n (row_in rows n)) → IsRight (count + 1) row → (n : ℕ) → IsNumberOf (count + 1) n → IsRight n (row_in (rows ++ row ∷ []) n)
  rows_more many each here n number =
      ⊎_elim
      (λ same. subst (λ m. IsRight m (row_in (rows ++ row ∷ []) m)) (sym same) (subst (IsRight (count + 1)) (sym (row_last rows row count (sym many))) here))
      (λ other.
      let earlier : IsNumberOf count n = (number.0, omega (arith, number.1, other)) in
      subst (IsRight n) (sym (row_before rows row n (omega (arith, earlier.1, many)))) (each n earlier))
      (cases_eq n (count + 1))

  pub length_more : length rows ≡ count → length (rows ++ row ∷ []) ≡ count + 1
  length_more many = length-append rows (row ∷ []) ∙ ap (λ n. n + 1) many

-- the row of a number stands at the place before it
pub row_read : (rows : List (List Cost)) (n : ℕ) (row d : List Cost) → IsNumberOf (length rows) n → row ≡ get_or rows (n - 1) d → row ≡ row_in rows n
row_read rows zero row d h e = absurd (omega (arith, h.0))
row_read rows (suc n) row d h e =
    let place : suc n - 1 ≡ n = omega arith in
    e ∙ ap (λ i. get_or rows i d) place ∙ get_or_default rows n d [] (omega (arith, h.1))
