-- Reading step by step.
use Rattle.std.proofs.Common.{◌≡◌, ℕ, zero, suc, ◌+◌, ◌≤◌, ◌<◌, List, [], ◌∷◌, ◌++◌, length, drop, refl, sym, ap, ◌∙◌, arith, append_assoc}
use Rattle.std.specs.Prelude.{Option, Some, None}
use Rattle.std.proofs.lemmas.List.{length-drop, drop-drop, append-nil}
use Rattle.cs_pattern_parts.specs.Items.Steps.{and_more, up_to, steps}

-- each step takes a byte or more, and no more than there are
abbrev pub Moves : {A : Type 0} → (List ℕ → Option (A × ℕ)) → Type 0
Moves {A} step = (text : List ℕ) (x : A) (n : ℕ) → step text ≡ Some (x, n) → (0 < n) × (n ≤ length text)

and_more_same : {A : Type 0} (o : Option (A × ℕ)) (f g : ℕ → List A × ℕ) → ((x : A) (n : ℕ) → o ≡ Some (x, n) → f n ≡ g n) → and_more o f ≡ and_more o g
and_more_same None f g h = refl
and_more_same {A} (Some (x, n)) f g h = ap (λ (r : List A × ℕ). (x ∷ r.0, n + r.1)) (h x n refl)

module _ {A : Type 0} (step : List ℕ → Option (A × ℕ)) (moves : Moves step) where
  nothing_left : (k : ℕ) (text : List ℕ) → length text ≤ 0 → (o : Option (A × ℕ)) → step text ≡ o → and_more o (λ m. up_to step k (drop m text)) ≡ ([], 0)
  nothing_left k text p None e = refl
  nothing_left k text p (Some (x, n)) e = let m = moves text x n e in absurd (omega (arith, m.0, m.1))

  -- more fuel than the text is long changes nothing
  enough : (j k : ℕ) (text : List ℕ) → length text ≤ j → length text ≤ k → up_to step j text ≡ up_to step k text
  enough zero zero text p q = refl
  enough zero (suc k) text p q = sym (nothing_left k text p (step text) refl)
  enough (suc j) zero text p q = nothing_left j text q (step text) refl
  enough (suc j) (suc k) text p q =
      and_more_same (step text) (λ m. up_to step j (drop m text)) (λ m. up_to step k (drop m text)) (λ x n e.
      let m = moves text x n e in
      enough j k (drop n text) (omega (arith, m.0, length-drop n text)) (omega (arith, m.0, length-drop n text)))

  pub steps_none : (text : List ℕ) → step text ≡ None → steps step text ≡ ([], 0)
  unfolding steps
  steps_none text e = by_length (length text) refl
    where
      by_length : (n : ℕ) → length text ≡ n → up_to step (length text) text ≡ ([], 0)
      by_length zero l = rw l refl
      by_length (suc n) l = rw (l, e) refl

  pub steps_more : (text : List ℕ) (x : A) (n : ℕ) → step text ≡ Some (x, n) → steps step text ≡ (x ∷ (steps step (drop n text)).0, n + (steps step (drop n text)).1)
  unfolding steps
  steps_more text x n e = by_length (length text) refl
    where
      by_length : (k : ℕ) → length text ≡ k → up_to step (length text) text ≡ (x ∷ (up_to step (length (drop n text)) (drop n text)).0, n + (up_to step (length (drop n text)) (drop n text)).1)
      by_length zero l = let m = moves text x n e in absurd (omega (arith, m.0, m.1))
      by_length (suc k) l =
          let m = moves text x n e in
          let same = enough k (length (drop n text)) (drop n text) (omega (arith, m.0, length-drop n text)) (omega arith) in
          rw (l, e) (ap (λ (r : List A × ℕ). (x ∷ r.0, n + r.1)) same)

  -- What stands up to the offset, and what still stands from there on, is all that stands.
  pub record Walks (text : List ℕ) (xs : List A) (at : ℕ) : Type 0 where
    pub within : at ≤ length text
    pub list : xs ++ (steps step (drop at text)).0 ≡ (steps step text).0
    pub size : at + (steps step (drop at text)).1 ≡ (steps step text).1

  pub walks_none : (text : List ℕ) → Walks text [] 0
  walks_none text = record { within = omega arith; list = refl; size = omega arith }

  pub walks_more : (text : List ℕ) (xs : List A) (at : ℕ) (x : A) (n : ℕ) (here : List ℕ) → here ≡ drop at text → step here ≡ Some (x, n) → Walks text xs at → Walks text (xs ++ x ∷ []) (at + n)
  walks_more text xs at x n here is e w =
      let f : step (drop at text) ≡ Some (x, n) = ap step (sym is) ∙ e in
      let m = moves (drop at text) x n f in
      let more = steps_more (drop at text) x n f in
      let same : drop n (drop at text) ≡ drop (at + n) text = drop-drop n at text in
      record {
        within = omega (arith, m.1, length-drop at text, w.within);
        list =
            append_assoc xs (x ∷ []) (steps step (drop (at + n) text)).0
            ∙ ap (λ (t : List ℕ). xs ++ (x ∷ (steps step t).0)) (sym same)
            ∙ sym (ap (λ (r : List A × ℕ). xs ++ r.0) more)
            ∙ w.list;
        size =
            (let s : (steps step (drop at text)).1 ≡ n + (steps step (drop n (drop at text))).1 = ap (λ (r : List A × ℕ). r.1) more in
            let t : (steps step (drop n (drop at text))).1 ≡ (steps step (drop (at + n) text)).1 = ap (λ (u : List ℕ). (steps step u).1) same in
            omega (arith, s, t, w.size));
      }

  pub walks_all : (text : List ℕ) (xs : List A) (at : ℕ) (here : List ℕ) → here ≡ drop at text → step here ≡ None → Walks text xs at → steps step text ≡ (xs, at)
  walks_all text xs at here is e w =
      let stop = steps_none (drop at text) (ap step (sym is) ∙ e) in
      let list : (steps step text).0 ≡ xs = sym w.list ∙ ap (λ (r : List A × ℕ). xs ++ r.0) stop ∙ append-nil xs in
      let size : (steps step text).1 ≡ at = omega (arith, w.size, ap (λ (r : List A × ℕ). r.1) stop) in
      pair (steps step text) list size
    where
      pair : (r : List A × ℕ) → r.0 ≡ xs → r.1 ≡ at → r ≡ (xs, at)
      pair r p q = rw (← p, ← q) refl
