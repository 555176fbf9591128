-- The least texts of all rules: at most one table of them, and not none.
use Rattle.std.proofs.Common.{◌≡◌, ℕ, zero, suc, ◌+◌, ◌-◌, ◌<◌, ◌≤◌, arith, List, [], ◌∷◌, ◌++◌, length, length-append, Option, None, refl, sym, ap, ◌∙◌, subst, ⊎_elim}
use Rattle.std.specs.Prelude.{slice_index_or}
use Rattle.std.proofs.lemmas.Bool.{cases_lt}
use Rattle.std.proofs.lemmas.List.{get_or_append_left, get_or_push}
use Rattle.std.proofs.lemmas.Option.{slice_get-get_or, slice_get_within}
use Rattle.cs_grammar.specs.Grammar.{IsNumberOf}
use Rattle.cs_pattern_parts.specs.Tree.Pattern.{Regex}
use Rattle.cs_lexical.specs.Winning.{IsLeastIfAny, Overlap, Wins}
use Rattle.cs_lexical.specs.Least.{AreLeastTexts, LeastTexts, both_in, win_in}
use Rattle.cs_lexical.proofs.LawProofs.{one_entry, some_entry}

-- lists whose members are the same at each place are the same
same_by_place : {A : Type 0} (d : A) (xs ys : List A) → length xs ≡ length ys → ((i : ℕ) → i < length xs → slice_index_or xs i d ≡ slice_index_or ys i d) → xs ≡ ys
same_by_place {A} d [] [] same each = refl
same_by_place {A} d [] (y ∷ ys) same each = absurd (omega (arith, same))
same_by_place {A} d (x ∷ xs) [] same each = absurd (omega (arith, same))
same_by_place {A} d (x ∷ xs) (y ∷ ys) same each =
    let first : x ≡ y = each 0 (omega arith) in
    let others = same_by_place d xs ys (omega (arith, same)) (λ i within. each (suc i) (omega (arith, within))) in
    ap (λ (l : List A). x ∷ l) others ∙ ap (λ (e : A). e ∷ ys) first

abbrev texts_with : List (Option (List ℕ)) → List (List (Option (List ℕ))) → LeastTexts
texts_with wins rows = record { wins = wins; rows = rows }

module _ (patterns : List Regex) (a b : LeastTexts) (x : AreLeastTexts patterns a) (y : AreLeastTexts patterns b) where
  same_win : (i : ℕ) → i < length a.wins → slice_index_or a.wins i None ≡ slice_index_or b.wins i None
  same_win i within =
      let number : IsNumberOf (length patterns) (i + 1) = (omega arith, omega (arith, within, x.rules)) in
      let e : i + 1 - 1 ≡ i = omega arith in
      let P : ℕ → Type 0 = λ k. slice_index_or a.wins k None ≡ slice_index_or b.wins k None in
      subst P e (one_entry (Wins patterns (i + 1)) (win_in a (i + 1)) (win_in b (i + 1)) (x.wins (i + 1) number) (y.wins (i + 1) number))

  row_in : LeastTexts → ℕ → List (Option (List ℕ))
  row_in t i = slice_index_or t.rows i []

  long : (t : LeastTexts) → AreLeastTexts patterns t → (i : ℕ) → i < length patterns → i + 1 + length (slice_index_or t.rows i []) ≡ length patterns
  long t is i within = is.behind i (slice_index_or t.rows i []) (slice_get-get_or t.rows i [] (omega (arith, within, is.rows)))

  same_both : (i j : ℕ) → i + 1 + 1 + j ≤ length patterns → slice_index_or (slice_index_or a.rows i []) j None ≡ slice_index_or (slice_index_or b.rows i []) j None
  same_both i j within =
      let e : i + 1 - 1 ≡ i = omega arith in
      let f : i + 1 + 1 + j - (i + 1) - 1 ≡ j = omega arith in
      let P : ℕ → Type 0 = λ k. slice_index_or (slice_index_or a.rows k []) j None ≡ slice_index_or (slice_index_or b.rows k []) j None in
      let Q : ℕ → Type 0 = λ q. slice_index_or (slice_index_or a.rows (i + 1 - 1) []) q None ≡ slice_index_or (slice_index_or b.rows (i + 1 - 1) []) q None in
      let first : 0 < i + 1 = omega arith in
      let ascend : i + 1 < i + 1 + 1 + j = omega arith in
      subst P e (subst Q f (one_entry (Overlap patterns (i + 1) (i + 1 + 1 + j)) (both_in a (i + 1) (i + 1 + 1 + j)) (both_in b (i + 1) (i + 1 + 1 + j)) (x.overlaps (i + 1) (i + 1 + 1 + j) first ascend within) (y.overlaps (i + 1) (i + 1 + 1 + j) first ascend within)))

  same_row : (i : ℕ) → i < length a.rows → slice_index_or a.rows i [] ≡ slice_index_or b.rows i []
  same_row i within =
      let inside : i < length patterns = omega (arith, within, x.rows) in
      let la = long a x i inside in
      let lb = long b y i inside in
      same_by_place None (slice_index_or a.rows i []) (slice_index_or b.rows i []) (omega (arith, la, lb)) (λ j less. same_both i j (omega (arith, la, less)))

  pub same_texts : a ≡ b
  same_texts =
      let wins = same_by_place None a.wins b.wins (x.rules ∙ sym y.rules) same_win in
      let rows = same_by_place [] a.rows b.rows (x.rows ∙ sym y.rows) same_row in
      ap (λ (w : List (Option (List ℕ))). texts_with w a.rows) wins ∙ ap (λ (r : List (List (Option (List ℕ)))). texts_with b.wins r) rows

-- ---- not none

-- so many members, each of which is as its place says
record AreEach {A : Type 0} (d : A) (Is : ℕ → A → Type 0) (n : ℕ) (xs : List A) : Type 0 where
  pub all : length xs ≡ n
  pub each : (i : ℕ) → i < n → Is i (slice_index_or xs i d)

one_longer : {A : Type 0} (d : A) (Is : ℕ → A → Type 0) (n : ℕ) (xs : List A) (x : A) → AreEach d Is n xs → Is n x → AreEach d Is (suc n) (xs ++ x ∷ [])
one_longer {A} d Is n xs x are is = record {
  all = length-append xs (x ∷ []) ∙ omega (arith, are.all);
  each = λ i less. ⊎_elim
      (λ (before : i < n).
      let E : A → Type 0 = λ e. Is i e in
      subst E (sym (get_or_append_left xs (x ∷ []) d i (omega (arith, before, are.all)))) (are.each i before))
      (λ (last : n ≤ i).
      let e : i ≡ n = omega (arith, last, less) in
      let E : A → Type 0 = λ v. Is i v in
      let F : ℕ → Type 0 = λ k. Is k x in
      subst E (sym (get_or_push xs x d i (omega (arith, e, are.all)))) (subst F (sym e) is))
      (cases_lt i n);
}

some_each : {A : Type 0} (d : A) (Is : ℕ → A → Type 0) → ((i : ℕ) → ((x : A) → Is i x → ⊥) → ⊥) → (n : ℕ) → ((xs : List A) → AreEach d Is n xs → ⊥) → ⊥
some_each {A} d Is some zero none = none [] (record { all = refl; each = λ i less. absurd (omega (arith, less)) })
some_each {A} d Is some (suc n) none =
    some_each d Is some n (λ xs are. some n (λ x is. none (xs ++ x ∷ []) (one_longer d Is n xs x are is)))

module _ (patterns : List Regex) where
  abbrev IsWin : ℕ → Option (List ℕ) → Type 0
  IsWin i entry = IsLeastIfAny (Wins patterns (i + 1)) entry

  abbrev IsBoth : ℕ → ℕ → Option (List ℕ) → Type 0
  IsBoth i j entry = IsLeastIfAny (Overlap patterns (i + 1) (i + 1 + 1 + j)) entry

  abbrev IsRow : ℕ → List (Option (List ℕ)) → Type 0
  IsRow i row = AreEach None (IsBoth i) (length patterns - (i + 1)) row

  are_least : (wins : List (Option (List ℕ))) (rows : List (List (Option (List ℕ)))) → AreEach None IsWin (length patterns) wins → AreEach [] IsRow (length patterns) rows → AreLeastTexts patterns (record { wins = wins; rows = rows })
  are_least wins rows w r = record {
    rules = w.all;
    wins = λ rule number.
        let e : rule - 1 + 1 ≡ rule = omega (arith, number.0) in
        let P : ℕ → Type 0 = λ k. IsLeastIfAny (Wins patterns k) (slice_index_or wins (rule - 1) None) in
        subst P e (w.each (rule - 1) (omega (arith, number.0, number.1)));
    rows = r.all;
    behind = λ place row at.
        let within : place < length rows = slice_get_within rows place row at in
        let is = r.each place (omega (arith, within, r.all)) in
        let same : row ≡ slice_index_or rows place [] = cc (sym at ∙ slice_get-get_or rows place [] within) in
        omega (arith, within, r.all, is.all, ap (λ (l : List (Option (List ℕ))). length l) same);
    overlaps = λ rule other from_1 ascend within.
        let e : rule - 1 + 1 ≡ rule = omega (arith, from_1) in
        let f : rule - 1 + 1 + 1 + (other - rule - 1) ≡ other = omega (arith, from_1, ascend) in
        let row = r.each (rule - 1) (omega (arith, from_1, ascend, within)) in
        let entry = row.each (other - rule - 1) (omega (arith, from_1, ascend, within)) in
        let P : ℕ → Type 0 = λ k. IsLeastIfAny (Overlap patterns k (rule - 1 + 1 + 1 + (other - rule - 1))) (slice_index_or (slice_index_or rows (rule - 1) []) (other - rule - 1) None) in
        let Q : ℕ → Type 0 = λ k. IsLeastIfAny (Overlap patterns rule k) (slice_index_or (slice_index_or rows (rule - 1) []) (other - rule - 1) None) in
        subst Q f (subst P e entry);
  }

  pub some_texts : ((texts : LeastTexts) → AreLeastTexts patterns texts → ⊥) → ⊥
  some_texts none =
      some_each None IsWin (λ i. some_entry (Wins patterns (i + 1))) (length patterns) (λ wins w.
      some_each [] IsRow (λ i. some_each None (IsBoth i) (λ j. some_entry (Overlap patterns (i + 1) (i + 1 + 1 + j))) (length patterns - (i + 1))) (length patterns) (λ rows r.
      none (record { wins = wins; rows = rows }) (are_least wins rows w r)))
