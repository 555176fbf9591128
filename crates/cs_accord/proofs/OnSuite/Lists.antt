-- What lines of a suite tell of one kind.
use Rattle.std.proofs.Common.{◌≡◌, ℕ, zero, suc, ◌+◌, ◌-◌, ◌<◌, List, [], ◌∷◌, ◌++◌, Option, None, Some, map, length, get_or, refl, sym, ap, ◌∙◌, subst, append-nil, arith}
use Rattle.std.specs.Prelude.{slice_get}
use Rattle.std.specs.List.{AllByRecursion, AllZip, filter_map, cons_option, range_with_len}
use Rattle.std.proofs.lemmas.List.{ext_get_or}
use Rattle.std.proofs.lemmas.List.Elements.{filter_map-append}
use Rattle.std.proofs.lemmas.List.FromFn.{length-map-range_with_len, get_or-map-range_with_len}
use Rattle.cs_grammar.specs.Entries.{entry_or}
use Rattle.cs_lines.specs.Lines.Line.{Line}
use Rattle.cs_accord.specs.Suite.{numbered}

pub seam : {A : Type 0} (xs : List A) (x : A) (ys : List A) → slice_get (xs ++ x ∷ ys) (length xs) ≡ Some x
seam [] x ys = refl
seam (y ∷ xs) x ys = seam xs x ys

module _ {X : Type 0} (h : Line → Option X) where
  pub told_both : (xs ys : List Line) (a b : List X) → filter_map h xs ≡ a → filter_map h ys ≡ b → filter_map h (xs ++ ys) ≡ a ++ b
  told_both xs ys a b e f = filter_map-append h xs ys ∙ ap (λ (l : List X). l ++ filter_map h ys) e ∙ ap (λ (l : List X). a ++ l) f

  pub told_none : (xs ys : List Line) (a : List X) → filter_map h xs ≡ a → filter_map h ys ≡ [] → filter_map h (xs ++ ys) ≡ a
  told_none xs ys a e f = told_both xs ys a [] e f ∙ append-nil a

  pub none_in : (P : Line → Type 0) → ((l : Line) → P l → h l ≡ None) → (lines : List Line) → AllByRecursion P lines → filter_map h lines ≡ []
  none_in P none [] all = refl
  none_in P none (l ∷ lines) all = ap (λ (o : Option X). cons_option o (filter_map h lines)) (none l all.0) ∙ none_in P none lines all.1

  pub none_numbered : {A : Type 0} (f : ℕ → A → Line) → ((k : ℕ) (x : A) → h (f k x) ≡ None) → (n : ℕ) (xs : List A) → filter_map h (numbered n (λ k x. f k x ∷ []) xs) ≡ []
  none_numbered f none n [] = refl
  none_numbered f none n (x ∷ xs) =
      ap (λ (o : Option X). cons_option o (filter_map h (numbered (n + 1) (λ k y. f k y ∷ []) xs))) (none n x) ∙ none_numbered f none (n + 1) xs

  -- each line of members tells of the member
  pub told_each : {A : Type 0} (f : ℕ → A → Line) (v : A → X) → ((k : ℕ) (x : A) → h (f k x) ≡ Some (v x)) → (n : ℕ) (xs : List A) → filter_map h (numbered n (λ k x. f k x ∷ []) xs) ≡ map v xs
  told_each f v each n [] = refl
  told_each f v each n (x ∷ xs) =
      ap (λ (o : Option X). cons_option o (filter_map h (numbered (n + 1) (λ k y. f k y ∷ []) xs))) (each n x)
      ∙ ap (λ (l : List X). v x ∷ l) (told_each f v each (n + 1) xs)

  -- each tells of its number
  pub told_numbers : {A : Type 0} (f : ℕ → A → Line) (v : ℕ → X) → ((k : ℕ) (x : A) → h (f k x) ≡ Some (v k)) → (n : ℕ) (xs : List A) → filter_map h (numbered n (λ k x. f k x ∷ []) xs) ≡ map v (range_with_len n (length xs))
  told_numbers f v each n [] = refl
  told_numbers f v each n (x ∷ xs) =
      ap (λ (o : Option X). cons_option o (filter_map h (numbered (n + 1) (λ k y. f k y ∷ []) xs))) (each n x)
      ∙ ap (λ (l : List X). v n ∷ l) (told_numbers f v each (n + 1) xs)

-- ---- partners by number

module _ {A : Type 0} {B : Type 0} (R : B → Line → Type 0) where
  pub zip_numbered : (due : ℕ → B) (f : ℕ → A → Line) (n : ℕ) (xs : List A) (many : ℕ) → length xs ≡ many → ((i : ℕ) (x : A) → slice_get xs i ≡ Some x → R (due (n + i)) (f (n + i) x))
      → AllZip R (map due (range_with_len n many)) (numbered n (λ k x. f k x ∷ []) xs)
  zip_numbered due f n [] zero long each = tt
  zip_numbered due f n [] (suc many) long each = absurd (omega (arith, long))
  zip_numbered due f n (x ∷ xs) zero long each = absurd (omega (arith, long))
  zip_numbered due f n (x ∷ xs) (suc many) long each =
      let here : n + 0 ≡ n = omega arith in (
        subst (λ k. R (due k) (f k x)) here (each 0 x refl),
        zip_numbered due f (n + 1) xs many (omega (arith, long))
            (λ i y at. let next : n + suc i ≡ n + 1 + i = omega arith in subst (λ k. R (due k) (f k y)) next (each (suc i) y at)),
      )

pub zip_at : {B : Type 0} (R : ℕ → B → Type 0) (n many : ℕ) (ys : List B) → AllZip R (range_with_len n many) ys → (i : ℕ) (d : B) → i < many → R (n + i) (get_or ys i d)
zip_at R n zero ys zip i d low = absurd (omega (arith, low))
zip_at R n (suc many) [] zip i d low = absurd zip
zip_at R n (suc many) (y ∷ ys) zip zero d low = let here : n ≡ n + 0 = omega arith in subst (λ k. R k y) here zip.0
zip_at R n (suc many) (y ∷ ys) zip (suc i) d low =
    let next : n + 1 + i ≡ n + suc i = omega arith in subst (λ k. R k (get_or ys i d)) next (zip_at R (n + 1) many ys zip.1 i d (omega (arith, low)))

-- ---- entries of lists that are named

pub get_named : {A B : Type 0} (f : A → B) (xs : List A) (i : ℕ) (d : A) → get_or (map f xs) i (f d) ≡ f (get_or xs i d)
get_named f [] i d = refl
get_named f (x ∷ xs) zero d = refl
get_named f (x ∷ xs) (suc i) d = get_named f xs i d

pub entry_named : {A B : Type 0} (f : A → B) (xs : List A) (n : ℕ) (d : A) → entry_or (map f xs) n (f d) ≡ f (entry_or xs n d)
entry_named f xs zero d = refl
entry_named f xs (suc n) d = get_named f xs n d

-- a list is its entries by number
pub entries_are : {A : Type 0} (xs : List A) (n : ℕ) (d : A) → length xs ≡ n → map (λ k. get_or xs (k - 1) d) (range_with_len 1 n) ≡ xs
entries_are {A} xs n d many =
    let f : ℕ → A = λ k. get_or xs (k - 1) d in
    let long = length-map-range_with_len f 1 n in
    ext_get_or d (map f (range_with_len 1 n)) xs (long ∙ sym many)
    (λ i low.
    let within : i < n = omega (arith, low, long) in
    let back : 1 + i - 1 ≡ i = omega arith in
    get_or-map-range_with_len f 1 n i (1 + i) d within refl ∙ ap (λ k. get_or xs k d) back)
