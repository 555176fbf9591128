-- A text between quotes is that of one text.
use Rattle.std.proofs.Common.{◌≡◌, ℕ, ◌+◌, ◌*◌, ◌/◌, ◌%◌, true, false, inl, inr, List, [], ◌∷◌, ◌++◌, refl, sym, ap, ◌∙◌, arith}
use Rattle.std.specs.Prelude.{nat_le}
use Rattle.std.specs.List.{flat_map}
use Rattle.std.proofs.lemmas.Bool.{false≢true, cases_Bool, cond-true, cond-false, leb-true}
use Rattle.std.proofs.lemmas.List.{same_from_push}
use Rattle.std.proofs.lemmas.Nat.{div-add-mod'}
use Rattle.cs_lines.specs.Words.Words.{hexadecimal_digit, escaped, is_plain_text, text_byte, quoted}

pub low_digit : (n : ℕ) → nat_le n 9 ≡ true → hexadecimal_digit n ≡ 48 + n
low_digit n p = cond-true (nat_le n 9) (48 + n) (87 + n) p

pub high_digit : (n : ℕ) → nat_le n 9 ≡ false → hexadecimal_digit n ≡ 87 + n
high_digit n p = cond-false (nat_le n 9) (48 + n) (87 + n) p

pub hex_same : (m n : ℕ) → hexadecimal_digit m ≡ hexadecimal_digit n → m ≡ n
hex_same m n e =
    elim (cases_Bool (nat_le m 9)) [
      | inl p ↦
          (elim (cases_Bool (nat_le n 9)) [
            | inl q ↦ (let here = low_digit m p in let there = low_digit n q in omega (arith, e, here, there))
            | inr q ↦
                (let here = low_digit m p in let there = high_digit n q in let low = leb-true m 9 p in omega (arith, e, here, there, low))
          ])
      | inr p ↦
          (elim (cases_Bool (nat_le n 9)) [
            | inl q ↦
                (let here = high_digit m p in let there = low_digit n q in let low = leb-true n 9 q in omega (arith, e, here, there, low))
            | inr q ↦ (let here = high_digit m p in let there = high_digit n q in omega (arith, e, here, there))
          ])
    ]

pub no_backslash : (b : ℕ) → is_plain_text b ≡ true → b ≡ 92 → ⊥
no_backslash b p e = false≢true (sym (ap is_plain_text e) ∙ p)

pub plain : (b : ℕ) → is_plain_text b ≡ true → text_byte b ≡ b ∷ []
plain b p = cond-true (is_plain_text b) (b ∷ []) (escaped b) p

pub hidden : (b : ℕ) → is_plain_text b ≡ false → text_byte b ≡ escaped b
hidden b p = cond-false (is_plain_text b) (b ∷ []) (escaped b) p

pub escaped_same : (b c : ℕ) (r s : List ℕ) → escaped b ++ r ≡ escaped c ++ s → (b ≡ c) × (r ≡ s)
escaped_same b c r s e =
    let high : hexadecimal_digit (b / 16) ≡ hexadecimal_digit (c / 16) = cc in
    let low : hexadecimal_digit (b % 16) ≡ hexadecimal_digit (c % 16) = cc in
    let rest : r ≡ s = cc in (
      sym (div-add-mod' b 16)
          ∙ ap (λ n. n * 16 + b % 16) (hex_same (b / 16) (c / 16) high)
          ∙ ap (λ n. c / 16 * 16 + n) (hex_same (b % 16) (c % 16) low)
          ∙ div-add-mod' c 16,
      rest,
    )

pub byte_same : (b c : ℕ) (r s : List ℕ) → text_byte b ++ r ≡ text_byte c ++ s → (b ≡ c) × (r ≡ s)
byte_same b c r s e =
    elim (cases_Bool (is_plain_text b)) [
      | inl p ↦
          (elim (cases_Bool (is_plain_text c)) [
            | inl q ↦
                (let both : b ∷ r ≡ c ∷ s = sym (ap (λ (l : List ℕ). l ++ r) (plain b p)) ∙ e ∙ ap (λ (l : List ℕ). l ++ s) (plain c q) in
                let same : b ≡ c = cc in
                let rest : r ≡ s = cc in
                (same, rest))
            | inr q ↦
                (let both : b ∷ r ≡ escaped c ++ s = sym (ap (λ (l : List ℕ). l ++ r) (plain b p)) ∙ e ∙ ap (λ (l : List ℕ). l ++ s) (hidden c q) in
                absurd (no_backslash b p (cc)))
          ])
      | inr p ↦
          (elim (cases_Bool (is_plain_text c)) [
            | inl q ↦
                (let both : escaped b ++ r ≡ c ∷ s = sym (ap (λ (l : List ℕ). l ++ r) (hidden b p)) ∙ e ∙ ap (λ (l : List ℕ). l ++ s) (plain c q) in
                absurd (no_backslash c q (cc)))
            | inr q ↦
                escaped_same b c r s (sym (ap (λ (l : List ℕ). l ++ r) (hidden b p)) ∙ e ∙ ap (λ (l : List ℕ). l ++ s) (hidden c q))
          ])
    ]

pub some_bytes : (b : ℕ) (r : List ℕ) → [] ≡ text_byte b ++ r → ⊥
some_bytes b r e =
    elim (cases_Bool (is_plain_text b)) [
      | inl p ↦ (let both : [] ≡ b ∷ r = e ∙ ap (λ (l : List ℕ). l ++ r) (plain b p) in absurd cc)
      | inr p ↦ (let both : [] ≡ escaped b ++ r = e ∙ ap (λ (l : List ℕ). l ++ r) (hidden b p) in absurd cc)
    ]

text_same : (t u : List ℕ) → flat_map text_byte t ≡ flat_map text_byte u → t ≡ u
text_same [] [] e = refl
text_same [] (c ∷ u) e = absurd (some_bytes c (flat_map text_byte u) e)
text_same (b ∷ t) [] e = absurd (some_bytes b (flat_map text_byte t) (sym e))
text_same (b ∷ t) (c ∷ u) e =
    let parts = byte_same b c (flat_map text_byte t) (flat_map text_byte u) e in
    ap (λ x. x ∷ t) parts.0 ∙ ap (λ (l : List ℕ). c ∷ l) (text_same t u parts.1)

pub same_text : (t u : List ℕ) → quoted t ≡ quoted u → t ≡ u
same_text t u e =
    let inner : flat_map text_byte t ++ 34 ∷ [] ≡ flat_map text_byte u ++ 34 ∷ [] = cc in
    text_same t u (same_from_push (flat_map text_byte t) (flat_map text_byte u) 34 34 inner).0
