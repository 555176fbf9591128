-- Two lists side by side, with a state that each pair of members leads on.
use Rattle.std.proofs.Common.{◌≡◌, List, [], ◌∷◌, ◌++◌, length, refl, sym, ap, subst, arith}
use Rattle.std.specs.Prelude.{All, map}
use Rattle.std.specs.List.{AllZip}
use Rattle.std.proofs.lemmas.List.Elements.{All-cons, All-nil}
use Rattle.cs_writing.specs.Plan.Steps.{AllSteps}

module _ {C A B : Type 0} (R : C → A → C → B → Type 0) where
  -- one behind the other
  pub steps_append : (old mid new : C) (xs more : List A) (ys others : List B) → AllSteps R old xs mid ys → AllSteps R mid more new others → AllSteps R old (xs ++ more) new (ys ++ others)
  steps_append old mid new [] more ys others first second =
      subst (λ (l : List B). AllSteps R old more new (l ++ others)) (sym first.0) (subst (λ (c : C). AllSteps R c more new others) first.1 second)
  steps_append old mid new (x ∷ xs) more ys others first second =
      (first.0, first.1, first.2 ++ others, ap (λ (l : List B). l ++ others) first.3, first.4, steps_append first.0 mid new xs more first.2 others first.5 second)

  pub steps_push : (old mid new : C) (xs : List A) (x : A) (ys : List B) (y : B) → AllSteps R old xs mid ys → R mid x new y → AllSteps R old (xs ++ x ∷ []) new (ys ++ y ∷ [])
  steps_push old mid new xs x ys y are is =
      steps_append old mid new xs (x ∷ []) ys (y ∷ []) are (new, y, [], refl, is, (refl, refl))

  -- the first of them, and the others
  pub record FirstStep (old : C) (xs : List A) (new : C) (y : B) (ys : List B) : Type 0 where
    pub x : A
    pub others : List A
    pub mid : C
    pub split : xs ≡ x ∷ others
    pub step : R old x mid y
    pub more : AllSteps R mid others new ys

  pub first_step : (old new : C) (xs : List A) (y : B) (ys : List B) → AllSteps R old xs new (y ∷ ys) → FirstStep old xs new y ys
  first_step old new [] y ys are = absurd cc
  first_step old new (x ∷ xs) y ys are =
      let first : are.1 ≡ y = cc in
      let rest : are.2 ≡ ys = cc in
      record {
        x = x;
        others = xs;
        mid = are.0;
        split = refl;
        step = subst (R old x are.0) first are.4;
        more = subst (AllSteps R are.0 xs new) rest are.5;
      }

  pub no_step : (old new : C) (xs : List A) → AllSteps R old xs new [] → (xs ≡ []) × (new ≡ old)
  no_step old new [] are = (refl, are.1)
  no_step old new (x ∷ xs) are = absurd cc

  pub steps_length : (old new : C) (xs : List A) (ys : List B) → AllSteps R old xs new ys → length ys ≡ length xs
  steps_length old new [] ys are = ap length are.0
  steps_length old new (x ∷ xs) ys are =
      let long : length ys ≡ length (are.1 ∷ are.2) = ap length are.3 in
      omega (arith, long, steps_length are.0 new xs are.2 are.5)

  -- what holds of each of the second list
  pub steps_all : (P : B → Type 0) → ((old : C) (x : A) (new : C) (y : B) → R old x new y → P y) → (old new : C) (xs : List A) (ys : List B) → AllSteps R old xs new ys → All P ys
  steps_all P holds old new [] ys are = subst (All P) (sym are.0) (All-nil P)
  steps_all P holds old new (x ∷ xs) ys are =
      subst (All P) (sym are.3) (All-cons P are.1 are.2 (holds old x are.0 are.1 are.4) (steps_all P holds are.0 new xs are.2 are.5))

  -- and what is made of each, beside the first list
  pub steps_zip : {D : Type 0} (f : B → D) (Q : A → D → Type 0) → ((old : C) (x : A) (new : C) (y : B) → R old x new y → Q x (f y)) → (old new : C) (xs : List A) (ys : List B) → AllSteps R old xs new ys → AllZip Q xs (map f ys)
  steps_zip f Q holds old new [] ys are = subst (λ (l : List B). AllZip Q [] (map f l)) (sym are.0) tt
  steps_zip f Q holds old new (x ∷ xs) ys are =
      subst (λ (l : List B). AllZip Q (x ∷ xs) (map f l)) (sym are.3) (holds old x are.0 are.1 are.4, steps_zip f Q holds are.0 new xs are.2 are.5)
