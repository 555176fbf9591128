-- Intervals, test by test.
use Rattle.std.proofs.Common.{◌≡◌, ℕ, ◌+◌, true, false, List, take, drop, min, refl, sym, ap, ◌∙◌, arith}
use Rattle.std.specs.Prelude.{Option, Some, None, ◌==◌, IfSome}
use Rattle.std.proofs.lemmas.Bool.{eq-eqb}
use Rattle.cs_pattern_parts.specs.declared.items.item.Repetition.{Repetition}
use Rattle.cs_bytes.specs.Places.{has_at}
use Rattle.cs_bytes.specs.Digits.{number_of}
use Rattle.cs_pattern_parts.specs.Items.Interval.{exactly, at_least, between, sized, longer, digits, open_interval, interval}
use Rattle.cs_pattern_parts.proofs.OnItems.Picked.{not_equal}
use Rattle.cs_pattern_parts.proofs.OnItems.Numbers.{exactly_capped, at_least_capped, between_capped}

module _ (text : List ℕ) (size : ℕ) (is : size ≡ digits text) where
  pub open_none : (n : ℕ) → has_at text size 125 ≡ false → None ≡ open_interval n text
  unfolding open_interval
  open_none n e = let f : has_at text (digits text) 125 ≡ false = ap (λ k. has_at text k 125) (sym is) ∙ e in rw f refl

  pub open_short : (n least : ℕ) → least ≡ min n 4294967295 → has_at text size 125 ≡ true → size ≡ 0 → sized (at_least least) 1 ≡ open_interval n text
  unfolding open_interval
  open_short n least cut e z =
      let f : has_at text (digits text) 125 ≡ true = ap (λ k. has_at text k 125) (sym is) ∙ e in
      let g : digits text ≡ 0 = sym is ∙ z in
      let h : (digits text == 0) ≡ true = eq-eqb (digits text) 0 g in
      let k : digits text + 1 ≡ 1 = omega (arith, g) in
      rw (f, h, k) (ap (λ r. sized r 1) (at_least_capped n least cut))

  pub open_long : (n least most : ℕ) → least ≡ min n 4294967295 → most ≡ min (number_of 10 (take size text)) 4294967295 → has_at text size 125 ≡ true → (size ≡ 0 → ⊥) → sized (between least most) (size + 1) ≡ open_interval n text
  unfolding open_interval
  open_long n least most cut too e z =
      let f : has_at text (digits text) 125 ≡ true = ap (λ k. has_at text k 125) (sym is) ∙ e in
      let h : (digits text == 0) ≡ false = not_equal (digits text) 0 (λ g. z (is ∙ g)) in
      rw (f, h) (ap (λ r. sized r (size + 1)) (between_capped n (number_of 10 (take size text)) least most cut too) ∙ ap (λ k. sized (between n (number_of 10 (take k text))) (k + 1)) is)

  pub interval_none : size ≡ 0 → None ≡ interval text
  unfolding interval
  interval_none z = let h : (digits text == 0) ≡ true = eq-eqb (digits text) 0 (sym is ∙ z) in rw h refl

  pub interval_closed : (least : ℕ) → least ≡ min (number_of 10 (take size text)) 4294967295 → (size ≡ 0 → ⊥) → has_at text size 125 ≡ true → sized (exactly least) (size + 1) ≡ interval text
  unfolding interval
  interval_closed least cut z e =
      let f : has_at text (digits text) 125 ≡ true = ap (λ k. has_at text k 125) (sym is) ∙ e in
      let h : (digits text == 0) ≡ false = not_equal (digits text) 0 (λ g. z (is ∙ g)) in
      rw (h, f) (ap (λ r. sized r (size + 1)) (exactly_capped (number_of 10 (take size text)) least cut) ∙ ap (λ k. sized (exactly (number_of 10 (take k text))) (k + 1)) is)

  pub interval_no_comma : (size ≡ 0 → ⊥) → has_at text size 125 ≡ false → has_at text size 44 ≡ false → None ≡ interval text
  unfolding interval
  interval_no_comma z e c =
      let f : has_at text (digits text) 125 ≡ false = ap (λ k. has_at text k 125) (sym is) ∙ e in
      let g : has_at text (digits text) 44 ≡ false = ap (λ k. has_at text k 44) (sym is) ∙ c in
      let h : (digits text == 0) ≡ false = not_equal (digits text) 0 (λ i. z (is ∙ i)) in
      rw (h, f, g) refl

  pub interval_open : (found : Option (Repetition × ℕ)) (rest : List ℕ) → rest ≡ drop (size + 1) text → found ≡ open_interval (number_of 10 (take size text)) rest → (size ≡ 0 → ⊥) → has_at text size 125 ≡ false → has_at text size 44 ≡ true
      → longer (size + 1) found ≡ interval text
  unfolding interval
  interval_open found rest here is_open z e c =
      let f : has_at text (digits text) 125 ≡ false = ap (λ k. has_at text k 125) (sym is) ∙ e in
      let g : has_at text (digits text) 44 ≡ true = ap (λ k. has_at text k 44) (sym is) ∙ c in
      let h : (digits text == 0) ≡ false = not_equal (digits text) 0 (λ i. z (is ∙ i)) in
      rw (h, f, g) (ap (longer (size + 1)) (is_open ∙ ap (open_interval (number_of 10 (take size text))) here) ∙ ap (λ k. longer (k + 1) (open_interval (number_of 10 (take k text)) (drop (k + 1) text))) is)

pub if_some : {A : Type 0} (o : Option A) (P Q : A → Type 0) → ((x : A) → P x → Q x) → IfSome o P → IfSome o Q
if_some None P Q h i = i
if_some (Some x) P Q h i = h x i
