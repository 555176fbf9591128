-- Lists of numbers with tokens: those that come first with their tokens, with one more at the end of the list.
use Rattle.std.proofs.Common.{◌≡◌, ℕ, ◌+◌, ◌||◌, Bool, true, false, cond, not, List, [], ◌∷◌, ◌++◌, length, filter, refl, sym, ap, ◌∙◌, arith}
use Rattle.std.specs.List.{enumerate_from, list_any}
use Rattle.std.specs.Str.{bytes_eq}
use Rattle.std.proofs.lemmas.List.{append-nil}
use Rattle.std.proofs.lemmas.List.Elements.{filter-append}
use Rattle.std.proofs.lemmas.Slice.Eq.{bytes_eq-Decides}
use Rattle.cs_manifest.specs.Manifest.Manifest.{distinct}

-- the tokens stand in the list
abbrev pub has : List ℕ → List (ℕ × List ℕ) → Bool
has tokens list = list_any (λ y. bytes_eq tokens y.1) list

-- other tokens than these
abbrev pub other : List ℕ → ℕ × List ℕ → Bool
other tokens y = not (bytes_eq y.1 tokens)

-- tokens that differ from those that are left out are in the list as before
module _ (x tokens : List ℕ) (apart : bytes_eq tokens x ≡ false) where
  has_step : (d : ℕ × List ℕ) (ds : List (ℕ × List ℕ)) (b : Bool) → bytes_eq d.1 x ≡ b → has tokens (filter (other x) ds) ≡ has tokens ds
      → has tokens (cond (not b) (d ∷ filter (other x) ds) (filter (other x) ds)) ≡ has tokens (d ∷ ds)
  has_step d ds true e rest =
      let same : d.1 ≡ x = (bytes_eq-Decides d.1 x).0 e in
      rest ∙ ap (λ c. c || has tokens ds) (sym (ap (bytes_eq tokens) same ∙ apart))
  has_step d ds false e rest = ap (λ c. bytes_eq tokens d.1 || c) rest

  has-filter : (ds : List (ℕ × List ℕ)) → has tokens (filter (other x) ds) ≡ has tokens ds
  has-filter [] = refl
  has-filter (d ∷ ds) = has_step d ds (bytes_eq d.1 x) refl (has-filter ds)

-- one more at the end stands last where its tokens are new
module _ (x y : ℕ × List ℕ) (ds : List (ℕ × List ℕ)) where
  push_step : (same old : Bool) → bytes_eq y.1 x.1 ≡ same → has y.1 ds ≡ old
      → x ∷ filter (other x.1) (cond old ds (ds ++ y ∷ []))
      ≡ cond (same || has y.1 (filter (other x.1) ds)) (x ∷ filter (other x.1) ds) (x ∷ (filter (other x.1) ds ++ y ∷ []))
  push_step true true e f = refl
  push_step true false e f =
      ap (λ (l : List (ℕ × List ℕ)). x ∷ l)
      (filter-append (other x.1) ds (y ∷ []) ∙ ap (λ b. filter (other x.1) ds ++ cond (not b) (y ∷ []) []) e ∙ append-nil (filter (other x.1) ds))
  push_step false true e f =
      sym (ap (λ b. cond b (x ∷ filter (other x.1) ds) (x ∷ (filter (other x.1) ds ++ y ∷ []))) (has-filter x.1 y.1 e ds ∙ f))
  push_step false false e f =
      ap (λ (l : List (ℕ × List ℕ)). x ∷ l)
      (filter-append (other x.1) ds (y ∷ []) ∙ ap (λ b. filter (other x.1) ds ++ cond (not b) (y ∷ []) []) e)
      ∙ sym (ap (λ b. cond b (x ∷ filter (other x.1) ds) (x ∷ (filter (other x.1) ds ++ y ∷ []))) (has-filter x.1 y.1 e ds ∙ f))

pub distinct-push : (ys : List (ℕ × List ℕ)) (y : ℕ × List ℕ) → distinct (ys ++ y ∷ []) ≡ cond (has y.1 (distinct ys)) (distinct ys) (distinct ys ++ y ∷ [])
distinct-push [] y = refl
distinct-push (x ∷ xs) y =
    ap (λ (l : List (ℕ × List ℕ)). x ∷ filter (other x.1) l) (distinct-push xs y)
    ∙ push_step x y (distinct xs) (bytes_eq y.1 x.1) (has y.1 (distinct xs)) refl refl

-- a list with numbers, with one more at its end
pub enumerate_from-push : {X : Type 0} (n : ℕ) (xs : List X) (x : X) → enumerate_from n (xs ++ x ∷ []) ≡ enumerate_from n xs ++ (n + length xs, x) ∷ []
enumerate_from-push {X} n [] x = let e : n ≡ n + 0 = omega arith in ap (λ (k : ℕ). (k, x) ∷ []) e
enumerate_from-push {X} n (y ∷ xs) x =
    let e : n + 1 + length xs ≡ n + length (y ∷ xs) = omega arith in
    ap (λ (l : List (ℕ × X)). (n, y) ∷ l) (enumerate_from-push (n + 1) xs x ∙ ap (λ (k : ℕ). enumerate_from (n + 1) xs ++ (k, x) ∷ []) e)
