-- Which elements a list has, and lists that have each element once.
use Rattle.std.proofs.Common.{◌≡◌, ◌≢◌, ℕ, zero, suc, ◌+◌, ◌-◌, ◌<◌, ◌≤◌, Bool, true, false, cond, List, [], ◌∷◌, ◌++◌, map, length, get_or, Some, refl, sym, ap, ◌∙◌, subst, ⊎_elim, inl, inr, ◌⊎◌, arith}
use Rattle.std.specs.Prelude.{slice_get}
use Rattle.std.proofs.lemmas.Bool.{cases_eq}
use Rattle.std.specs.List.{AllPairs, Contains, filter, flat_map, enumerate_from, range_with_len}

-- x is an element of the list
abbrev pub Among : {A : Type 0} → A → List A → Type 0
Among x [] = ⊥
Among x (y ∷ ys) = (x ≡ y) ⊎ Among x ys

-- no element stands in the list twice
abbrev pub Apart : {A : Type 0} → List A → Type 0
Apart [] = Unit {0}
Apart (x ∷ xs) = (Among x xs → ⊥) × Apart xs

module _ {A : Type 0} where
  pub Among-get_or : (xs : List A) (i : ℕ) (d : A) → i < length xs → Among (get_or xs i d) xs
  Among-get_or [] i d h = absurd (omega arith)
  Among-get_or (x ∷ xs) zero d h = inl refl
  Among-get_or (x ∷ xs) (suc i) d h = inr (Among-get_or xs i d (omega arith))

  pub Contains-from_Among : (x : A) (xs : List A) → Among x xs → Contains xs x
  Contains-from_Among x [] h = absurd h
  Contains-from_Among x (y ∷ ys) h =
      ⊎_elim (λ here. (0, omega arith, sym here))
      (λ later. let c = Contains-from_Among x ys later in let within = c.1 in (suc c.0, omega arith, c.2))
      h

  pub Among-from_Contains : (x : A) (xs : List A) → Contains xs x → Among x xs
  Among-from_Contains x xs c = subst (λ y. Among y xs) c.2 (Among-get_or xs c.0 x c.1)

  pub AllPairs-from_Apart : (xs : List A) → Apart xs → AllPairs (λ a b. a ≢ b) xs
  AllPairs-from_Apart [] h i j d below within = absurd (omega arith)
  AllPairs-from_Apart (x ∷ xs) h i zero d below within = absurd (omega arith)
  AllPairs-from_Apart (x ∷ xs) h zero (suc j) d below within = λ same. h.0 (subst (λ y. Among y xs) (sym same) (Among-get_or xs j d (omega arith)))
  AllPairs-from_Apart (x ∷ xs) h (suc i) (suc j) d below within = AllPairs-from_Apart xs h.1 i j d (omega arith) (omega arith)

  -- one list after another
  pub Among-left : (x : A) (xs ys : List A) → Among x xs → Among x (xs ++ ys)
  Among-left x [] ys h = absurd h
  Among-left x (z ∷ xs) ys h = ⊎_elim (λ here. inl here) (λ later. inr (Among-left x xs ys later)) h

  pub Among-right : (x : A) (xs ys : List A) → Among x ys → Among x (xs ++ ys)
  Among-right x [] ys h = h
  Among-right x (z ∷ xs) ys h = inr (Among-right x xs ys h)

  pub Among-cases : (x : A) (xs ys : List A) → Among x (xs ++ ys) → Among x xs ⊎ Among x ys
  Among-cases x [] ys h = inr h
  Among-cases x (z ∷ xs) ys h =
      ⊎_elim (λ here. inl (inl here)) (λ later. ⊎_elim (λ a. inl (inr a)) (λ b. inr b) (Among-cases x xs ys later)) h

  pub Apart-append : (xs ys : List A) → Apart xs → Apart ys → ((x : A) → Among x xs → Among x ys → ⊥) → Apart (xs ++ ys)
  Apart-append [] ys hx hy none = hy
  Apart-append (x ∷ xs) ys hx hy none = (
    λ again. ⊎_elim hx.0 (λ there. none x (inl refl) there) (Among-cases x xs ys again),
    Apart-append xs ys hx.1 hy (λ y a b. none y (inr a) b),
  )

  -- a list that is chosen or not
  pub Among-cond : (x : A) (b : Bool) (xs : List A) → Among x (cond b xs []) → (b ≡ true) × Among x xs
  Among-cond x true xs h = (refl, h)
  Among-cond x false xs h = absurd h

  pub Among-chosen : (x : A) (b : Bool) (xs : List A) → b ≡ true → Among x xs → Among x (cond b xs [])
  Among-chosen x true xs e h = h
  Among-chosen x false xs e h = absurd cc

  pub Apart-cond : (b : Bool) (xs : List A) → Apart xs → Apart (cond b xs [])
  Apart-cond true xs h = h
  Apart-cond false xs h = tt

  pub Among-filter : (test : A → Bool) (x : A) (xs : List A) → Among x (filter test xs) → Among x xs × (test x ≡ true)
  Among-filter test x [] h = absurd h
  Among-filter test x (y ∷ ys) h = go (λ k. Among-filter test x ys k) (test y) refl h
    where
      go : (Among x (filter test ys) → Among x ys × (test x ≡ true)) → (b : Bool) → test y ≡ b → Among x (cond b (y ∷ filter test ys) (filter test ys)) → Among x (y ∷ ys) × (test x ≡ true)
      go rest true e k = ⊎_elim (λ here. (inl here, ap test here ∙ e)) (λ later. (inr (rest later).0, (rest later).1)) k
      go rest false e k = (inr (rest k).0, (rest k).1)

  pub Among-passes : (test : A → Bool) (x : A) (xs : List A) → Among x xs → test x ≡ true → Among x (filter test xs)
  Among-passes test x [] h pass = absurd h
  Among-passes test x (y ∷ ys) h pass = go (λ k. Among-passes test x ys k pass) (test y) refl h
    where
      go : (Among x ys → Among x (filter test ys)) → (b : Bool) → test y ≡ b → Among x (y ∷ ys) → Among x (cond b (y ∷ filter test ys) (filter test ys))
      go rest true e k = ⊎_elim (λ here. inl here) (λ later. inr (rest later)) k
      go rest false e k = ⊎_elim (λ here. (let fails : test x ≡ false = ap test here ∙ e in absurd cc)) rest k

-- mapped lists
module _ {A B : Type 0} (f : A → B) where
  pub Among-map : (y : B) (xs : List A) → Among y (map f xs) → (x : A) × Among x xs × (y ≡ f x)
  Among-map y [] h = absurd h
  Among-map y (x ∷ xs) h =
      ⊎_elim (λ here. (x, inl refl, here)) (λ later. let r = Among-map y xs later in (r.0, inr r.1, r.2)) h

  pub Among-mapped : (x : A) (xs : List A) → Among x xs → Among (f x) (map f xs)
  Among-mapped x [] h = absurd h
  Among-mapped x (y ∷ ys) h = ⊎_elim (λ here. inl (ap f here)) (λ later. inr (Among-mapped x ys later)) h

  pub Apart-map : ((x y : A) → f x ≡ f y → x ≡ y) → (xs : List A) → Apart xs → Apart (map f xs)
  Apart-map same [] h = tt
  Apart-map same (x ∷ xs) h = (
    λ again. (let r = Among-map (f x) xs again in h.0 (subst (λ y. Among y xs) (sym (same x r.0 r.2)) r.1)),
    Apart-map same xs h.1,
  )

  -- what passes a test has no key twice either
  Among-map-filter : (test : A → Bool) (y : B) (xs : List A) → Among y (map f (filter test xs)) → Among y (map f xs)
  Among-map-filter test y xs h =
      let r = Among-map y (filter test xs) h in
      subst (λ z. Among z (map f xs)) (sym r.2) (Among-mapped r.0 xs (Among-filter test r.0 xs r.1).0)

  pub Apart-map-filter : (test : A → Bool) (xs : List A) → Apart (map f xs) → Apart (map f (filter test xs))
  Apart-map-filter test [] h = tt
  Apart-map-filter test (x ∷ xs) h = go (Apart-map-filter test xs h.1) (test x)
    where
      go : Apart (map f (filter test xs)) → (b : Bool) → Apart (map f (cond b (x ∷ filter test xs) (filter test xs)))
      go rest true = (λ again. h.0 (Among-map-filter test (f x) xs again), rest)
      go rest false = rest

-- lists joined end to end
module _ {A B : Type 0} (f : A → List B) where
  pub Among-flat_map : (y : B) (xs : List A) → Among y (flat_map f xs) → (x : A) × Among x xs × Among y (f x)
  Among-flat_map y [] h = absurd h
  Among-flat_map y (x ∷ xs) h =
      ⊎_elim (λ here. (x, inl refl, here)) (λ later. let r = Among-flat_map y xs later in (r.0, inr r.1, r.2))
      (Among-cases y (f x) (flat_map f xs) h)

  pub Among-joined : (y : B) (x : A) (xs : List A) → Among x xs → Among y (f x) → Among y (flat_map f xs)
  Among-joined y x [] h in' = absurd h
  Among-joined y x (z ∷ zs) h in' =
      ⊎_elim (λ here. Among-left y (f z) (flat_map f zs) (subst (λ w. Among y (f w)) here in'))
      (λ later. Among-right y (f z) (flat_map f zs) (Among-joined y x zs later in'))
      h

  -- each part has a key of its own, which its elements show
  pub Apart-flat_map : {K : Type 0} (key : A → K) (shown : B → K) → ((x : A) → Apart (f x)) → ((x : A) (y : B) → Among y (f x) → shown y ≡ key x) → (xs : List A) → Apart (map key xs) → Apart (flat_map f xs)
  Apart-flat_map key shown each shows [] h = tt
  Apart-flat_map key shown each shows (x ∷ xs) h =
      Apart-append (f x) (flat_map f xs) (each x) (Apart-flat_map key shown each shows xs h.1)
      (λ y here later.
      let r = Among-flat_map y xs later in
      let same = sym (shows r.0 y r.2) ∙ shows x y here in
      h.0 (subst (λ k. Among k (map key xs)) same (Among-mapped key r.0 xs r.1)))

-- ranges
pub Among-range : (n a k : ℕ) → Among n (range_with_len a k) → (a ≤ n) × (n < a + k)
Among-range n a zero h = absurd h
Among-range n a (suc k) h =
    ⊎_elim (λ here. (omega arith, omega arith)) (λ later. let r = Among-range n (a + 1) k later in (omega (arith, r.0), omega (arith, r.1))) h

pub Among-in_range : (n a k : ℕ) → a ≤ n → n < a + k → Among n (range_with_len a k)
Among-in_range n a zero low high = absurd (omega arith)
Among-in_range n a (suc k) low high =
    ⊎_elim (λ here. inl (sym here)) (λ other. inr (Among-in_range n (a + 1) k (omega arith) (omega arith))) (cases_eq a n)

pub Apart-range : (a k : ℕ) → Apart (range_with_len a k)
Apart-range a zero = tt
Apart-range a (suc k) = (λ again. (let r = Among-range a (a + 1) k again in omega (arith, r.0)), Apart-range (a + 1) k)

-- lists with numbers
module _ {A : Type 0} where
  pub Among-enumerate_from : (e : ℕ × A) (a : ℕ) (xs : List A) → Among e (enumerate_from a xs) → (a ≤ e.0) × (slice_get xs (e.0 - a) ≡ Some e.1)
  Among-enumerate_from e a [] h = absurd h
  Among-enumerate_from e a (x ∷ xs) h =
      ⊎_elim
      (λ here.
      let number : e.0 ≡ a = ap (λ (p : ℕ × A). p.0) here in
      let first : e.0 - a ≡ 0 = omega arith in
      (omega arith, ap (λ k. slice_get (x ∷ xs) k) first ∙ ap (λ (p : ℕ × A). Some p.1) (sym here)))
      (λ later.
      let r = Among-enumerate_from e (a + 1) xs later in
      let low = r.0 in
      let next : e.0 - a ≡ suc (e.0 - (a + 1)) = omega arith in
      (omega arith, ap (λ k. slice_get (x ∷ xs) k) next ∙ r.1))
      h

  pub Among-enumerated : (n a : ℕ) (x : A) (xs : List A) → a ≤ n → slice_get xs (n - a) ≡ Some x → Among (n, x) (enumerate_from a xs)
  Among-enumerated n a x [] low at = absurd cc
  Among-enumerated n a x (y ∷ ys) low at =
      ⊎_elim
      (λ here.
      let first : n - a ≡ 0 = omega arith in
      let is : slice_get (y ∷ ys) 0 ≡ Some x = ap (λ k. slice_get (y ∷ ys) k) (sym first) ∙ at in
      let same : y ≡ x = cc in
      inl (ap (λ m. (m, x)) (sym here) ∙ ap (λ z. (a, z)) (sym same)))
      (λ other.
      let next : n - a ≡ suc (n - (a + 1)) = omega arith in
      inr (Among-enumerated n (a + 1) x ys (omega arith) (ap (λ k. slice_get (y ∷ ys) k) (sym next) ∙ at)))
      (cases_eq a n)

  pub Apart-numbers : (a : ℕ) (xs : List A) → Apart (map (λ (e : ℕ × A). e.0) (enumerate_from a xs))
  Apart-numbers a [] = tt
  Apart-numbers a (x ∷ xs) = (
    λ again.
        let r = Among-map (λ (e : ℕ × A). e.0) a (enumerate_from (a + 1) xs) again in
        let low = (Among-enumerate_from r.0 (a + 1) xs r.1).0 in
        let same : a ≡ r.0.0 = r.2 in
        omega arith,
    Apart-numbers (a + 1) xs,
  )
