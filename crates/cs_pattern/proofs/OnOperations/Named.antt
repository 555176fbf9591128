-- Names of definitions, looked up and added.
use Rattle.std.proofs.Common.{◌≡◌, ◌+◌, ◌≤◌, Bool, true, false, cond, List, [], ◌∷◌, ◌++◌, length, map, refl, ap, ◌∙◌, arith, inl, inr}
use Rattle.std.specs.Prelude.{Some, None, position, is_some, nat_lt, not, if◌then◌else◌}
use Rattle.std.specs.List.{prefix_len, position_or_len}
use Rattle.std.proofs.lemmas.List.{length-map}
use Rattle.std.proofs.lemmas.Bool.{cases_lt, lt-ltb}
use Rattle.indexmap.specs.IndexMap.{insert_entry}

prefix_len-map : {A B : Type 0} (p : B → Bool) (f : A → B) (xs : List A) → prefix_len p (map f xs) ≡ prefix_len (λ x. p (f x)) xs
prefix_len-map p f [] = refl
prefix_len-map p f (x ∷ xs) = ap (λ n. cond (p (f x)) (1 + n) 0) (prefix_len-map p f xs)

pub position-map : {A B : Type 0} (p : B → Bool) (f : A → B) (xs : List A) → position p (map f xs) ≡ position (λ x. p (f x)) xs
position-map p f xs = ap (λ n. cond (nat_lt n (length (map f xs))) (Some n) None) (prefix_len-map (λ y. not (p y)) f xs) ∙ ap (λ m. cond (nat_lt (position_or_len (λ x. p (f x)) xs) m) (Some (position_or_len (λ x. p (f x)) xs)) None) (length-map xs f)

-- where nothing is found, nothing passes up to the end
none_found : {A : Type 0} (p : A → Bool) (xs : List A) → is_some (position p xs) ≡ false → length xs ≤ position_or_len p xs
none_found p xs e =
    elim (cases_lt (position_or_len p xs) (length xs)) [
      | inl lt ↦ let t : nat_lt (position_or_len p xs) (length xs) ≡ true = lt-ltb (position_or_len p xs) (length xs) lt in
          let f : is_some (position p xs) ≡ true = ap (λ v. is_some (cond v (Some (position_or_len p xs)) None)) t in absurd cc
      | inr ge ↦ ge
    ]

module _ {K V : Type 0} (eq : K → K → Bool) (k : K) (v : V) where
  appended : (es : List (K × V)) → length es ≤ position_or_len (λ e. eq k e.0) es → insert_entry eq es k v ≡ es ++ (k, v) ∷ []
  appended [] le = refl
  appended (e ∷ es) le = by_test (eq k e.0) refl (appended es)
    where
      by_test : (b : Bool) → eq k e.0 ≡ b → (length es ≤ position_or_len (λ x. eq k x.0) es → insert_entry eq es k v ≡ es ++ (k, v) ∷ []) → (if eq k e.0 then (e.0, v) ∷ es else e ∷ insert_entry eq es k v) ≡ e ∷ (es ++ (k, v) ∷ [])
      by_test true h rest = let l : position_or_len (λ x. eq k x.0) (e ∷ es) ≡ 0 = ap (λ b. cond (not b) (1 + position_or_len (λ x. eq k x.0) es) 0) h in absurd (omega (arith, le, l))
      by_test false h rest =
          let l : position_or_len (λ x. eq k x.0) (e ∷ es) ≡ 1 + position_or_len (λ x. eq k x.0) es = ap (λ b. cond (not b) (1 + position_or_len (λ x. eq k x.0) es) 0) h in
          ap (λ b. if b then (e.0, v) ∷ es else e ∷ insert_entry eq es k v) h ∙ ap (λ xs. e ∷ xs) (rest (omega (arith, le, l)))

  pub insert_absent : (es : List (K × V)) → is_some (position (λ e. eq k e.0) es) ≡ false → insert_entry eq es k v ≡ es ++ (k, v) ∷ []
  insert_absent es e = appended es (none_found (λ x. eq k x.0) es e)
