-- Each escape, character and mark takes a byte or more.
use Rattle.std.proofs.Common.{◌≡◌, ℕ, suc, ◌+◌, ◌≤◌, ◌<◌, Bool, true, false, cond, List, [], ◌∷◌, length, take, min, refl, sym, ap, arith, inl, inr, ◌⊎◌}
use Rattle.std.specs.Prelude.{Option, Some, None, ◌==◌, ◌||◌, ◌&&◌, nat_lt, IsTrue, IsSomeAnd, slice_get, ◌-◌}
use Rattle.std.specs.List.{prefix_len}
use Rattle.std.proofs.lemmas.List.Sums.{prefix_len-le-length}
use Rattle.cs_bytes.specs.Classes.{is_octal_digit, is_hexadecimal_digit, is_inner}
use Rattle.cs_bytes.specs.Places.{has_at}
use Rattle.cs_pattern_parts.specs.Items.Character.{octal, hexadecimal, escape}
use Rattle.cs_pattern_parts.specs.Items.Parts.{letter, byte_of}
use Rattle.cs_pattern_parts.specs.Items.Brackets.{BracketMark, plain}
use Rattle.cs_bytes.specs.Digits.{number_of}
use Rattle.cs_pattern_parts.specs.Items.Quoted as quotes
use Rattle.cs_pattern_parts.specs.Items.Marks.{mark, named_part, part_of, or_itself, escape_mark}
use Rattle.cs_pattern_parts.specs.Items.Brackets as marked
use Rattle.cs_pattern_parts.proofs.OnItems.Walking.{Moves}
use Rattle.cs_bytes.proofs.Fronts.{has_within}

pub chosen : {A : Type 0} (b : Bool) (x y z : A) → cond b x y ≡ z → ((b ≡ true) × (x ≡ z)) ⊎ ((b ≡ false) × (y ≡ z))
chosen true x y z e = inl (refl, e)
chosen false x y z e = inr (refl, e)

pub run_some : (p : ℕ → Bool) (text : List ℕ) → IsSomeAnd (slice_get text 0) (λ b. IsTrue (p b)) → 0 < prefix_len p text
run_some p [] h = absurd h
run_some p (b ∷ text) h = rw h (omega arith)

octal_moves : (text : List ℕ) → IsSomeAnd (slice_get text 0) (λ b. IsTrue (is_octal_digit b)) → (0 < (octal text).1) × ((octal text).1 ≤ length text)
unfolding octal
octal_moves text h = let some = run_some is_octal_digit text h in let le = prefix_len-le-length is_octal_digit text in (omega arith, omega arith)

hexadecimal_within : (text : List ℕ) → (hexadecimal text).1 ≤ length text
unfolding hexadecimal
hexadecimal_within text = by_test (min (prefix_len is_hexadecimal_digit text) 2 == 0)
  where
    le : prefix_len is_hexadecimal_digit text ≤ length text
    le = prefix_len-le-length is_hexadecimal_digit text

    by_test : (v : Bool) → (cond {A = Option ℕ × ℕ} v (Some 120, 0) (byte_of (number_of 16 (take (min (prefix_len is_hexadecimal_digit text) 2) text)), min (prefix_len is_hexadecimal_digit text) 2)).1 ≤ length text
    by_test true = omega arith
    by_test false = omega (arith, le)

pub escape_moves : Moves escape
unfolding escape
escape_moves [] o n e = absurd cc
escape_moves (b ∷ rest) o n e =
    elim (chosen (b == 10) _ _ _ e) [
      | inl h ↦ let x = h.1 in absurd cc
      | inr h ↦
          elim (chosen (is_octal_digit b) _ _ _ h.1) [
            | inl g ↦
                let x : Some (octal (b ∷ rest)) ≡ Some (o, n) = g.1 in
                let y : octal (b ∷ rest) ≡ (o, n) = cc in
                let z : (octal (b ∷ rest)).1 ≡ n = ap (λ (r : Option ℕ × ℕ). r.1) y in
                let m = octal_moves (b ∷ rest) g.0 in
                (omega (arith, m.0), omega (arith, m.1))
            | inr g ↦
                elim (chosen (b == 120) _ _ _ g.1) [
                  | inl f ↦
                      let x : Some ((hexadecimal rest).0, (hexadecimal rest).1 + 1) ≡ Some (o, n) = f.1 in
                      let y : ((hexadecimal rest).0, (hexadecimal rest).1 + 1) ≡ (o, n) = cc in
                      let z : (hexadecimal rest).1 + 1 ≡ n = ap (λ (r : Option ℕ × ℕ). r.1) y in
                      let m = hexadecimal_within rest in
                      (omega arith, omega (arith, m))
                  | inr f ↦
                      let x : Some (Some (letter b), 1) ≡ Some (o, n) = f.1 in
                      let y : (Some (letter b), 1) ≡ (o, n) = cc in
                      let z : 1 ≡ n = ap (λ (r : Option ℕ × ℕ). r.1) y in
                      (omega arith, omega arith)
                ]
          ]
    ]

escaped_moves : (rest : List ℕ) (r : Option (Option ℕ × ℕ)) (c n : ℕ) → escape rest ≡ r → quotes.escaped r ≡ Some (c, n) → (0 < n) × (n ≤ suc (length rest))
escaped_moves rest None c n is e = absurd cc
escaped_moves rest (Some (None, k)) c n is e = absurd cc
escaped_moves rest (Some (Some b, k)) c n is e =
    let m = escape_moves rest (Some b) k is in
    let y : (b, k + 1) ≡ (c, n) = cc in
    let z : k + 1 ≡ n = ap (λ (r : ℕ × ℕ). r.1) y in
    (omega arith, omega (arith, m.1))

pub quoted_moves : Moves quotes.quoted_byte
unfolding quotes.quoted_byte
quoted_moves [] c n e = absurd cc
quoted_moves (b ∷ rest) c n e =
    elim (chosen ((b == 10) || (b == 34)) _ _ _ e) [
      | inl h ↦ let x = h.1 in absurd cc
      | inr h ↦
          elim (chosen (b == 92) _ _ _ h.1) [
            | inl g ↦ escaped_moves rest (escape rest) c n refl g.1
            | inr g ↦
                let x : Some (b, 1) ≡ Some (c, n) = g.1 in
                let y : (b, 1) ≡ (c, n) = cc in
                let z : 1 ≡ n = ap (λ (r : ℕ × ℕ). r.1) y in
                (omega arith, omega arith)
          ]
    ]

-- ---- marks

escape_mark_moves : (rest : List ℕ) (r : Option (Option ℕ × ℕ)) (x : BracketMark) (n : ℕ) → escape rest ≡ r → escape_mark r ≡ Some (x, n) → (0 < n) × (n ≤ suc (length rest))
escape_mark_moves rest None x n is e = absurd cc
escape_mark_moves rest (Some (o, k)) x n is e =
    let m = escape_moves rest o k is in
    let y : (marked.escaped o, k + 1) ≡ (x, n) = cc in
    let z : k + 1 ≡ n = ap (λ (r : BracketMark × ℕ). r.1) y in
    (omega arith, omega (arith, m.1))

part_size : (kind : ℕ) (name : List ℕ) (size : ℕ) (x : BracketMark) (n : ℕ) → part_of kind name size ≡ Some (x, n) → n ≡ size
part_size kind name size x n e =
    elim (chosen (kind == 58) _ _ _ e) [
      | inl h ↦ let g : Some (marked.class name, size) ≡ Some (x, n) = h.1 in let y : (marked.class name, size) ≡ (x, n) = cc in sym (ap (λ (r : BracketMark × ℕ). r.1) y)
      | inr h ↦
          elim (chosen ((kind == 46) || (kind == 61)) _ _ _ h.1) [
            | inl f ↦ let g : Some (marked.collating, size) ≡ Some (x, n) = f.1 in let y : (marked.collating, size) ≡ (x, n) = cc in sym (ap (λ (r : BracketMark × ℕ). r.1) y)
            | inr f ↦ let g = f.1 in absurd cc
          ]
    ]

pub and_true : (p q : Bool) → (p && q) ≡ true → (p ≡ true) × (q ≡ true)
and_true true q e = (refl, e)
and_true false q e = absurd cc

named_within : (text : List ℕ) (x : BracketMark) (n : ℕ) → named_part text ≡ Some (x, n) → n ≤ length text
unfolding named_part
named_within [] x n e = absurd cc
named_within (kind ∷ rest) x n e =
    elim (chosen (nat_lt 0 (prefix_len is_inner rest) && has_at rest (prefix_len is_inner rest) 93 && has_at rest (prefix_len is_inner rest - 1) kind) _ _ _ e) [
      | inl h ↦
          let s = part_size kind _ _ x n h.1 in
          let t = (and_true _ _ (and_true _ _ h.0).0).1 in
          omega (arith, s, has_within rest (prefix_len is_inner rest) 93 t)
      | inr h ↦ let g = h.1 in absurd cc
    ]

itself_moves : (rest : List ℕ) (r : Option (BracketMark × ℕ)) (x : BracketMark) (n : ℕ) → named_part rest ≡ r → or_itself r ≡ Some (x, n) → (0 < n) × (n ≤ suc (length rest))
itself_moves rest None x n is e =
    let y : (plain 91, 1) ≡ (x, n) = cc in
    let z : 1 ≡ n = ap (λ (r : BracketMark × ℕ). r.1) y in
    (omega arith, omega arith)
itself_moves rest (Some (part, k)) x n is e =
    let m = named_within rest part k is in
    let y : (part, k + 1) ≡ (x, n) = cc in
    let z : k + 1 ≡ n = ap (λ (r : BracketMark × ℕ). r.1) y in
    (omega arith, omega (arith, m))

pub mark_moves : Moves mark
unfolding mark
mark_moves [] x n e = absurd cc
mark_moves (b ∷ rest) x n e =
    elim (chosen ((b == 10) || (b == 93)) _ _ _ e) [
      | inl h ↦ let g = h.1 in absurd cc
      | inr h ↦
          elim (chosen (b == 92) _ _ _ h.1) [
            | inl g ↦ escape_mark_moves rest (escape rest) x n refl g.1
            | inr g ↦
                elim (chosen (b == 91) _ _ _ g.1) [
                  | inl f ↦ itself_moves rest (named_part rest) x n refl f.1
                  | inr f ↦
                      let w : Some (plain b, 1) ≡ Some (x, n) = f.1 in
                      let y : (plain b, 1) ≡ (x, n) = cc in
                      let z : 1 ≡ n = ap (λ (r : BracketMark × ℕ). r.1) y in
                      (omega arith, omega arith)
                ]
          ]
    ]
