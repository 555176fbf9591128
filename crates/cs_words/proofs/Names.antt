-- Lists of names that are read one by one.
use Rattle.std.proofs.Common.{◌≡◌, ◌≢◌, ◌⊎◌, ℕ, zero, suc, ◌+◌, ◌<◌, ◌≤◌, Bool, true, false, ◌||◌, ◌&&◌, List, [], ◌∷◌, ◌++◌, length, get_or, take, drop, refl, sym, ap, ◌∙◌, subst, ⊎_elim, inl, inr, arith}
use Rattle.std.specs.Prelude.{bytes_eq, codes, Option, None, Some, IfNone}
use Rattle.std.specs.List.{Contains}
use Rattle.std.proofs.Math.ListN.{get_or-append}
use Rattle.std.proofs.Math.Seq.{get_or-append_seam, take-length}
use Rattle.std.proofs.lemmas.Bool.{cases_lt}
use Rattle.std.proofs.lemmas.List.{take_more, length-append}
use Rattle.std.proofs.lemmas.List.Elements.{Contains-append_left, Contains-append_right, Contains-append_cases}
use Rattle.std.proofs.lemmas.Slice.Eq.{bytes_eq-Decides}
use Rattle.cs_choices.specs.declared.operators.Operators.{Operators}
use Rattle.cs_words.specs.Choices.{Chooses, IsOperators, has_operator, parts}
use Rattle.cs_words.specs.Steps.{Adds, CannotAdd}

-- ---- booleans and lists

or_cases : (a b : Bool) → (a || b) ≡ true → (a ≡ true) ⊎ (b ≡ true)
or_cases true b h = inl refl
or_cases false b h = inr h

or_left : (a b : Bool) → a ≡ true → (a || b) ≡ true
or_left true b h = refl
or_left false b h = absurd cc

or_right : (a b : Bool) → b ≡ true → (a || b) ≡ true
or_right true b h = refl
or_right false b h = h

same_bytes : (a b : List ℕ) → bytes_eq a b ≡ true → a ≡ b
same_bytes a b h = (bytes_eq-Decides a b).0 h

equal_bytes : (a b : List ℕ) → a ≡ b → bytes_eq a b ≡ true
equal_bytes a b h = (bytes_eq-Decides a b).1 h

-- a list at one of its places
pub around : {A : Type 0} (xs : List A) (n : ℕ) (d : A) → n < length xs → xs ≡ take n xs ++ get_or xs n d ∷ drop (suc n) xs
around [] n d h = absurd (omega arith)
around (x ∷ xs) zero d h = refl
around (x ∷ xs) (suc n) d h = ap (λ ys. x ∷ ys) (around xs n d (omega arith))

-- ---- one more name

module _ (chosen : List ℕ → Bool) (names : List (List ℕ)) (name : List ℕ) (is : Chooses chosen names) where
  -- the name isn't there
  new_name : chosen name ≡ false → (k : ℕ) (d : List ℕ) → k < length names → get_or names k d ≢ name
  new_name none k d within same =
      let there : Contains names name = (k, within, in_range k within d same) in
      let yes = (is.each name).1 there in cc
    where
      in_range : (k : ℕ) → k < length names → (d : List ℕ) → get_or names k d ≡ name → get_or names k name ≡ name
      in_range k within d same = default names k d name within ∙ same
        where
          default : (xs : List (List ℕ)) (k : ℕ) (d e : List ℕ) → k < length xs → get_or xs k e ≡ get_or xs k d
          default [] k d e h = absurd (omega arith)
          default (x ∷ xs) zero d e h = refl
          default (x ∷ xs) (suc k) d e h = default xs k d e (omega arith)

  pub chooses_more : (more : List ℕ → Bool) → Adds chosen name more → Chooses more (names ++ name ∷ [])
  chooses_more more adds = record {
    each = λ other. (
      (λ yes. ⊎_elim
          (λ before. Contains-append_left names (name ∷ []) other ((is.each other).0 before))
          (λ now. Contains-append_right names (name ∷ []) other (0, omega arith, sym (same_bytes other name now)))
          (or_cases (chosen other) (bytes_eq other name) (sym (adds.now other) ∙ yes))),
      (λ there. adds.now other ∙ ⊎_elim
          (λ before. or_left (chosen other) (bytes_eq other name) ((is.each other).1 before))
          (λ now. or_right (chosen other) (bytes_eq other name) (equal_bytes other name (only other now)))
          (Contains-append_cases names (name ∷ []) other there)),
    );
    once = λ i j d below within. pair i j d below within (cases_lt j (length names));
  }
    where
      only : (other : List ℕ) → Contains (name ∷ []) other → other ≡ name
      only other (zero, within, same) = sym same
      only other (suc k, within, same) = absurd (omega (arith, within))

      pair : (i j : ℕ) (d : List ℕ) → i < j → j < length (names ++ name ∷ []) → (j < length names) ⊎ (length names ≤ j)
          → get_or (names ++ name ∷ []) i d ≢ get_or (names ++ name ∷ []) j d
      pair i j d below within (inl inside) =
          rw (get_or-append names (name ∷ []) d i (omega arith), get_or-append names (name ∷ []) d j inside) (is.once i j d below inside)
      pair i j d below within (inr last) =
          let at_end : j ≡ length names = omega (arith, length-append names (name ∷ [])) in
          let seam : get_or (names ++ name ∷ []) j d ≡ name = subst (λ k. get_or (names ++ name ∷ []) k d ≡ name) (sym at_end) (get_or-append_seam names name [] d) in
          λ same. new_name adds.was i d (omega arith) (sym (get_or-append names (name ∷ []) d i (omega arith)) ∙ same ∙ seam)

-- the name can't be added: no choice has these names and those behind them
pub cannot_choose : {A : Type 0} (has : A → List ℕ → Bool) (choice other : A) (names : List (List ℕ)) (name : List ℕ) (behind : List (List ℕ))
    → Chooses (has choice) names → CannotAdd has choice name → Chooses (has other) (names ++ name ∷ behind) → ⊥
cannot_choose has choice other names name behind is (inl twice) all =
    let there = (is.each name).0 twice in
    let k = there.0 in
    let within : k < length names = there.1 in
    let left = get_or-append names (name ∷ behind) name k within in
    let seam = get_or-append_seam names name behind name in
    all.once k (length names) name within (omega (arith, length-append names (name ∷ behind))) (left ∙ there.2 ∙ sym seam)
cannot_choose has choice other names name behind is (inr unknown) all =
    let yes = (all.each name).1 (Contains-append_right names (name ∷ behind) name (0, omega arith, refl)) in
    let no = unknown other in cc

-- ---- the names up to a place

module _ {A : Type 0} (has : A → List ℕ → Bool) (names : List (List ℕ)) (n : ℕ) (name : List ℕ) (within : n < length names) (at : name ≡ get_or names n name) where
  pub added : (choice more : A) → Chooses (has choice) (take n names) → Adds (has choice) name (has more) → Chooses (has more) (take (n + 1) names)
  added choice more is adds =
      let next : take (n + 1) names ≡ take n names ++ name ∷ [] = take_more names n name within ∙ ap (λ x. take n names ++ x ∷ []) (sym at) in
      subst (λ xs. Chooses (has more) xs) (sym next) (chooses_more (has choice) (take n names) name is (has more) adds)

  pub stuck : (choice other : A) → Chooses (has choice) (take n names) → CannotAdd has choice name → Chooses (has other) names → ⊥
  stuck choice other is cannot all =
      let whole : names ≡ take n names ++ name ∷ drop (suc n) names = around names n name within ∙ ap (λ x. take n names ++ x ∷ drop (suc n) names) (sym at) in
      cannot_choose has choice other (take n names) name (drop (suc n) names) is cannot (subst (λ xs. Chooses (has other) xs) whole all)

pub all_taken : {A : Type 0} (has : A → List ℕ → Bool) (choice : A) (names : List (List ℕ)) (n : ℕ) → n ≡ length names → Chooses (has choice) (take n names) → Chooses (has choice) names
all_taken has choice names n all is = subst (λ xs. Chooses (has choice) xs) (ap (λ m. take m names) all ∙ take-length names) is

-- a fact that is known of None
pub none_where : {A : Type 0} {P : Type 0} (o : Option A) → P → IfNone o P
none_where None p = p
none_where (Some a) p = tt

-- the value isn't `none`, and doesn't name operators
pub no_operators_of : (value : List ℕ) → (value ≡ codes "none" → ⊥) → ((operators : Operators) → Chooses (has_operator operators) (parts value) → ⊥) → (operators : Operators) → IsOperators value operators → ⊥
no_operators_of value some names operators (inl none) = some none.0
no_operators_of value some names operators (inr is) = names operators is

-- ---- operators

or_true : (a : Bool) → (a || true) ≡ true
or_true true = refl
or_true false = refl

pub or_false : (a : Bool) → a ≡ (a || false)
or_false true = refl
or_false false = refl

first : (e d x y z : Bool) → d ≡ false → (((e && true) || x) || y) || z ≡ ((((e && d) || x) || y) || z) || e
first e true x y z h = absurd cc
first true false x y z h = sym (or_true (((false || x) || y) || z))
first false false x y z h = or_false ((x || y) || z)

second : (t e d y z : Bool) → d ≡ false → ((t || (e && true)) || y) || z ≡ (((t || (e && d)) || y) || z) || e
second t e true y z h = absurd cc
second true true false y z h = refl
second false true false y z h = sym (or_true (y || z))
second true false false y z h = refl
second false false false y z h = or_false (y || z)

third : (t e d z : Bool) → d ≡ false → (t || (e && true)) || z ≡ ((t || (e && d)) || z) || e
third t e true z h = absurd cc
third true true false z h = refl
third false true false z h = sym (or_true z)
third true false false z h = refl
third false false false z h = or_false z
