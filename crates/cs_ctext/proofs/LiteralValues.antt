-- The byte and the size that are found are the literal's.
use Rattle.std.proofs.Common.{◌≡◌, ◌≢◌, ℕ, suc, ◌+◌, ◌-◌, ◌<◌, ◌≤◌, Bool, true, false, cond, eqb, ◌||◌, List, [], ◌∷◌, ◌++◌, length, get_or, take, drop, min, Option, Some, None, refl, sym, ap, subst, ◌∙◌, ◌⊎◌, inl, inr, arith, eq-eqb, add-one, take-append-drop}
use Rattle.std.specs.List.{prefix_len, list_all}
use Rattle.std.proofs.lemmas.Bool.{false≢true, eqb-true}
use Rattle.std.proofs.lemmas.Bool.Decides.{nat_tests}
use Rattle.std.proofs.lemmas.List.{length-take-le, take_at, drop_at}
use Rattle.std.proofs.lemmas.List.Sums.{prefix_len-le-length}
use Rattle.cs_bytes.specs.Classes.{is_octal_digit, is_hexadecimal_digit}
use Rattle.cs_bytes.specs.Digits.{number_of}
use Rattle.cs_bytes.proofs.Runs.{run-stops, run-passes}
use Rattle.cs_ctext.specs.Literals.{escaped_byte, IsCharacter, plain, named, octal, hexadecimal, IsLiteral}
use Rattle.cs_bytes.specs.Places.{begins_with, has_at}
use Rattle.cs_ctext.specs.Scans.{digits_of, behind, single, escape_of, character_of}
use Rattle.cs_bytes.proofs.Fronts.{false-eqb, and_true, front_has}

-- ---- pairs

abbrev pair : ℕ → ℕ → Option (ℕ × ℕ)
pair value size = Some (value, size)

same_pair : (p q : ℕ × ℕ) → Some p ≡ Some q → p ≡ q
same_pair p q e = cc

-- two pairs that are found are one
first_same : (a b c d : ℕ) → pair a b ≡ pair c d → a ≡ c
first_same a b c d e = ap (λ p. p.0) (same_pair (a, b) (c, d) e)

second_same : (a b c d : ℕ) → pair a b ≡ pair c d → b ≡ d
second_same a b c d e = ap (λ p. p.1) (same_pair (a, b) (c, d) e)

-- ---- digits

digits_of-read : (p : ℕ → Bool) (base most : ℕ) (digits : List ℕ) (c : ℕ) (rest : List ℕ) → list_all p digits ≡ true → p c ≡ false → 1 ≤ length digits → length digits ≤ most
    → digits_of p base most (digits ++ c ∷ rest) ≡ Some (number_of base digits, length digits)
digits_of-read p base most digits c rest all stop some few =
    let size : min most (prefix_len p (digits ++ c ∷ rest)) ≡ length digits = rw (run-stops p digits c rest all stop) (omega arith) in
    rw (size, false-eqb (length digits) 0 (omega arith), take_at digits (c ∷ rest) (length digits) refl) refl

-- what is found as digits in front of a text
record Digits (p : ℕ → Bool) (base most : ℕ) (text : List ℕ) (value size : ℕ) : Type 0 where
  counted : length (take size text) ≡ size
  some : 1 ≤ size
  few : size ≤ most
  all : list_all p (take size text) ≡ true
  value_is : value ≡ number_of base (take size text)

Digits-from_found : (p : ℕ → Bool) (base most : ℕ) (text : List ℕ) (value size : ℕ) → digits_of p base most text ≡ pair value size → Digits p base most text value size
Digits-from_found p base most text value size e = by_test (eqb count 0) refl e
  where
    count : ℕ
    count = min most (prefix_len p text)

    by_test : (t : Bool) → eqb (min most (prefix_len p text)) 0 ≡ t → cond t None (pair (number_of base (take (min most (prefix_len p text)) text)) (min most (prefix_len p text))) ≡ pair value size → Digits p base most text value size
    by_test true q f = absurd cc
    by_test false q f =
        let same : min most (prefix_len p text) ≡ size = second_same _ _ _ _ f in
        let number : number_of base (take (min most (prefix_len p text)) text) ≡ value = first_same _ _ _ _ f in
        let le : size ≤ prefix_len p text = omega arith in
        let ne : size ≢ 0 = λ z. false≢true (sym q ∙ eq-eqb _ 0 (same ∙ z)) in
        record {
          counted = length-take-le size text (omega (arith, prefix_len-le-length p text));
          some = omega arith;
          few = omega arith;
          all = run-passes p size text le;
          value_is = sym number ∙ ap (λ n. number_of base (take n text)) same;
        }

-- ---- what is found is a character

found_in_map : (n : ℕ) (found : Option (ℕ × ℕ)) (v m : ℕ) → behind n found ≡ pair v m → (k : ℕ) × (found ≡ pair v k) × (m ≡ k + n)
found_in_map n None v m e = absurd cc
found_in_map n (Some (w, k)) v m e =
    (k, ap (λ x. pair x k) (first_same w (k + n) v m e), sym (second_same w (k + n) v m e))

-- a character stands in front of the text
record Stands (text : List ℕ) (value size : ℕ) : Type 0 where
  counted : length (take size text) ≡ size
  value_is : IsCharacter (take size text) value

named_stands : (b : ℕ) (text : List ℕ) (found : Option ℕ) (value size : ℕ) → escaped_byte b ≡ found → single found ≡ pair value size → Stands (92 ∷ b ∷ text) value (size + 1)
named_stands b text None value size p e = absurd cc
named_stands b text (Some v) value size p e =
    rw (← second_same v 1 value size e) (record { counted = refl; value_is = named (p ∙ ap Some (first_same v 1 value size e)) })

escape_stands : (text : List ℕ) (value size : ℕ) → escape_of text ≡ pair value size → Stands (92 ∷ text) value (size + 1)
escape_stands [] value size e = absurd cc
escape_stands (b ∷ text) value size e = by_x (eqb b 120) refl e
  where
    by_octal : (t : Bool) → is_octal_digit b ≡ t → cond t (digits_of is_octal_digit 8 3 (b ∷ text)) (single (escaped_byte b)) ≡ pair value size → Stands (92 ∷ b ∷ text) value (size + 1)
    by_octal true p f =
        let d = Digits-from_found is_octal_digit 8 3 (b ∷ text) value size f in
        rw add-one (record { counted = ap suc d.counted; value_is = subst (λ v. IsCharacter (92 ∷ take size (b ∷ text)) v) (sym d.value_is) (octal (rw d.counted d.some) (rw d.counted d.few) d.all) })
    by_octal false p f = named_stands b text (escaped_byte b) value size refl f

    by_x : (t : Bool) → eqb b 120 ≡ t
        → cond t (behind 1 (digits_of is_hexadecimal_digit 16 2 text)) (cond (is_octal_digit b) (digits_of is_octal_digit 8 3 (b ∷ text)) (single (escaped_byte b))) ≡ pair value size
        → Stands (92 ∷ b ∷ text) value (size + 1)
    by_x true p f =
        let found = found_in_map 1 (digits_of is_hexadecimal_digit 16 2 text) value size f in
        let d = Digits-from_found is_hexadecimal_digit 16 2 text value found.0 found.1 in
        let is : b ≡ 120 = eqb-true b 120 p in
        let two : size + 1 ≡ suc (suc found.0) = omega (arith, found.2) in
        rw (two, is) (record { counted = ap (λ n. suc (suc n)) d.counted; value_is = subst (λ v. IsCharacter (92 ∷ 120 ∷ take found.0 text) v) (sym d.value_is) (hexadecimal (rw d.counted d.some) (rw d.counted d.few) d.all) })
    by_x false p f = by_octal (is_octal_digit b) refl f

character_stands : (text : List ℕ) (value size : ℕ) → character_of text ≡ pair value size → Stands text value size
character_stands [] value size e = absurd cc
character_stands (b ∷ text) value size e = by_end (eqb b 39) (eqb b 10) refl refl e
  where
    by_backslash : (t : Bool) → eqb b 92 ≡ t → b ≢ 39 → b ≢ 10 → cond t (behind 1 (escape_of text)) (pair b 1) ≡ pair value size → Stands (b ∷ text) value size
    by_backslash true p quote line f =
        let found = found_in_map 1 (escape_of text) value size f in
        let is : b ≡ 92 = eqb-true b 92 p in
        rw (is, found.2) (escape_stands text value found.0 found.1)
    by_backslash false p quote line f =
        rw (← second_same b 1 value size f) (record { counted = refl; value_is = subst (λ v. IsCharacter (b ∷ []) v) (first_same b 1 value size f) (plain quote (λ is. false≢true (sym p ∙ eq-eqb b 92 is)) line) })

    by_end : (t u : Bool) → eqb b 39 ≡ t → eqb b 10 ≡ u → cond (t || u) None (cond (eqb b 92) (behind 1 (escape_of text)) (pair b 1)) ≡ pair value size → Stands (b ∷ text) value size
    by_end true u p q f = absurd cc
    by_end false true p q f = absurd cc
    by_end false false p q f = by_backslash (eqb b 92) refl (λ is. false≢true (sym p ∙ eq-eqb b 39 is)) (λ is. false≢true (sym q ∙ eq-eqb b 10 is)) f

begins_cons : (text : List ℕ) → begins_with 39 text ≡ true → (rest : List ℕ) × (text ≡ 39 ∷ rest)
begins_cons [] e = absurd (false≢true e)
begins_cons (b ∷ text) e = (text, ap (λ x. x ∷ text) (eqb-true b 39 e))

pub IsLiteral-from_found : (text : List ℕ) (value size : ℕ) → character_of text ≡ pair value size → 0 < value → value < 256 → begins_with 39 (drop size text) ≡ true → IsLiteral (39 ∷ text) value (size + 2)
IsLiteral-from_found text value size e some small close =
    let h = character_stands text value size e in
    let end = begins_cons (drop size text) close in
    record {
      character = take size text;
      rest = end.0;
      spelled = ap (λ t. 39 ∷ t) (sym (take-append-drop size text) ∙ ap (λ t. take size text ++ t) end.1);
      value = h.value_is;
      not_zero = some;
      fits = small;
      ends = omega (arith, h.counted);
    }

-- ---- a literal's character is found

named_apart : (b value : ℕ) → escaped_byte b ≡ Some value → (eqb b 120 ≡ false) × (is_octal_digit b ≡ false)
named_apart b value e = (grind (arith, nat_tests), grind (arith, nat_tests))

octal_apart : (b : ℕ) → is_octal_digit b ≡ true → eqb b 120 ≡ false
octal_apart b e = grind (arith, nat_tests)

octal-first : (d : ℕ) (text : List ℕ) → is_octal_digit d ≡ true → escape_of (d ∷ text) ≡ digits_of is_octal_digit 8 3 (d ∷ text)
octal-first d text first =
    rw (octal_apart d first) (ap (λ t. cond t (digits_of is_octal_digit 8 3 (d ∷ text)) (single (escaped_byte d))) first)

octal-read : (digits rest : List ℕ) → 1 ≤ length digits → length digits ≤ 3 → list_all is_octal_digit digits ≡ true
    → escape_of (digits ++ 39 ∷ rest) ≡ Some (number_of 8 digits, length digits)
octal-read [] rest some few all = absurd (omega arith)
octal-read (d ∷ digits) rest some few all =
    let first = (and_true (is_octal_digit d) (list_all is_octal_digit digits) all).0 in
    octal-first d (digits ++ 39 ∷ rest) first ∙ digits_of-read is_octal_digit 8 3 (d ∷ digits) 39 rest all refl some few

pub character_of-character : {character : List ℕ} {value : ℕ} → IsCharacter character value → (rest : List ℕ) → character_of (character ++ 39 ∷ rest) ≡ Some (value, length character)
character_of-character (plain {b = b} quote backslash line) rest = rw (false-eqb b 39 quote, false-eqb b 10 line, false-eqb b 92 backslash) refl
character_of-character (named {b = b} {value = value} e) rest =
    let apart = named_apart b value e in
    rw (apart.0, apart.1, e) refl
character_of-character (octal {digits = digits} some few all) rest =
    rw (octal-read digits rest some few all) (ap (λ n. Some (number_of 8 digits, n)) (omega arith))
character_of-character (hexadecimal {digits = digits} some few all) rest =
    rw (digits_of-read is_hexadecimal_digit 16 2 digits 39 rest all refl some few) (ap (λ n. Some (number_of 16 digits, n)) (omega arith))

pub found_from_IsLiteral : (text : List ℕ) (byte size : ℕ) → IsLiteral (39 ∷ text) byte size
    → (n : ℕ) × (character_of text ≡ Some (byte, n)) × (begins_with 39 (drop n text) ≡ true) × (0 < byte) × (byte < 256) × (size ≡ n + 2)
found_from_IsLiteral text byte size h =
    let same : text ≡ h.character ++ 39 ∷ h.rest = ap (drop 1) h.spelled in
    (length h.character, ap character_of same ∙ character_of-character h.value h.rest, rw (same, drop_at h.character (39 ∷ h.rest) (length h.character) refl) refl, h.not_zero, h.fits, h.ends)

-- ---- at a place of the bytes

pub literal_read : (bytes text : List ℕ) (at value size : ℕ) → has_at bytes at 39 ≡ true → text ≡ drop (at + 1) bytes → character_of text ≡ Some (value, size)
    → value ≢ 0 → value ≤ 255 → begins_with 39 (drop size text) ≡ true → IsLiteral (drop at bytes) value ((at + size + 2) - at)
literal_read bytes text at value size quote is e some small close =
    let front : drop at bytes ≡ 39 ∷ text = front_has bytes at 39 quote ∙ ap (λ t. 39 ∷ t) (sym is) in
    let end : (at + size + 2) - at ≡ size + 2 = omega arith in
    rw (front, end) (IsLiteral-from_found text value size e (omega arith) (omega arith) close)

-- what of the character in front of the text is no literal's
abbrev pub IsNoLiteral : List ℕ → Option (ℕ × ℕ) → Type 0
IsNoLiteral text None = Unit {0}
IsNoLiteral text (Some (value, size)) = (value ≡ 0) ⊎ ((255 < value) ⊎ (begins_with 39 (drop size text) ≡ false))

refused : (text : List ℕ) (found : Option (ℕ × ℕ)) (byte n : ℕ) → IsNoLiteral text found → found ≡ pair byte n → 0 < byte → byte < 256 → begins_with 39 (drop n text) ≡ true → ⊥
refused text None byte n h e some small close = cc
refused text (Some (value, size)) byte n (inl zero_value) e some small close =
    let same : value ≡ byte = first_same value size byte n e in
    omega arith
refused text (Some (value, size)) byte n (inr (inl large)) e some small close =
    let same : value ≡ byte = first_same value size byte n e in
    omega arith
refused text (Some (value, size)) byte n (inr (inr open_end)) e some small close =
    false≢true (sym open_end ∙ (ap (λ k. begins_with 39 (drop k text)) (second_same value size byte n e) ∙ close))

pub literal_refused : (bytes text : List ℕ) (at : ℕ) (found : Option (ℕ × ℕ)) → has_at bytes at 39 ≡ true → text ≡ drop (at + 1) bytes → found ≡ character_of text → IsNoLiteral text found
    → (byte size : ℕ) → ¬ IsLiteral (drop at bytes) byte size
literal_refused bytes text at found quote is e h byte size literal =
    let front : drop at bytes ≡ 39 ∷ text = front_has bytes at 39 quote ∙ ap (λ t. 39 ∷ t) (sym is) in
    let f = found_from_IsLiteral text byte size (subst (λ t. IsLiteral t byte size) front literal) in
    refused text found byte f.0 h (e ∙ f.1) f.3 f.4 f.2

pub no_quote : (text : List ℕ) → begins_with 39 text ≡ false → (byte size : ℕ) → ¬ IsLiteral text byte size
no_quote text e byte size literal = false≢true (sym e ∙ ap (begins_with 39) literal.spelled)

pub same_literal : (text : List ℕ) (a b m n : ℕ) → IsLiteral text a m → IsLiteral text b n → (a ≡ b) × (m ≡ n)
same_literal [] a b m n p q = absurd (nothing_spelled p.spelled)
  where
    nothing_spelled : {rest : List ℕ} → [] ≡ 39 ∷ rest → ⊥
    nothing_spelled e = cc
same_literal (c ∷ text) a b m n p q =
    let quote : c ≡ 39 = ap (λ t. get_or t 0 0) p.spelled in
    let f = found_from_IsLiteral text a m (subst (λ d. IsLiteral (d ∷ text) a m) quote p) in
    let g = found_from_IsLiteral text b n (subst (λ d. IsLiteral (d ∷ text) b n) quote q) in
    let found : pair a f.0 ≡ pair b g.0 = sym f.1 ∙ g.1 in
    (first_same a f.0 b g.0 found, omega (arith, second_same a f.0 b g.0 found, f.5, g.5))
