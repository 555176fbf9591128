-- Texts between double quotes, byte by byte.
use Rattle.std.proofs.Common.{◌≡◌, ◌↔◌, ℕ, ◌+◌, ◌<◌, ◌≤◌, Bool, false, inl, inr, Option, None, Some, List, [], ◌∷◌, ◌++◌, length, drop, refl, sym, ap, ◌∙◌, arith}
use Rattle.std.specs.Prelude.{nat_le, ◌==◌, IsTrue, codes}
use Rattle.std.specs.List.{flat_map}
use Rattle.std.proofs.lemmas.Bool.{false≢true, ne_eqb, cases_Bool, leb-true, leb-false}
use Rattle.std.proofs.lemmas.List.Elements.{All-head, All-tail, All-cons, All-nil}
use Rattle.cs_pattern_parts.specs.Items.StandsFor.{AreBytes}
use Rattle.cs_lines.specs.Words.Words.{hexadecimal_digit, text_byte, quoted}
use Rattle.cs_lines.specs.Lines.Spelled.{Spells, AreSpelled, BeginsSpelled, BeginsUnspelled, spelled_or_none, bytes_in}
use Rattle.cs_lines.proofs.OnTexts.Quotes.{byte_same, some_bytes, low_digit, high_digit}

abbrev pub IsByte : ℕ → Type 0
IsByte b = b < 256

-- ---- digits

pub digit_below_ten : (n : ℕ) → n ≤ 9 → hexadecimal_digit n ≡ 48 + n
digit_below_ten n low =
    elim (cases_Bool (nat_le n 9)) [
      | inl is ↦ low_digit n is
      | inr is ↦ (let high = leb-false n 9 is in absurd (omega (arith, low, high)))
    ]

pub digit_above_nine : (n : ℕ) → 10 ≤ n → hexadecimal_digit n ≡ 87 + n
digit_above_nine n large =
    elim (cases_Bool (nat_le n 9)) [
      | inl is ↦ (let low = leb-true n 9 is in absurd (omega (arith, large, low)))
      | inr is ↦ high_digit n is
    ]

-- where the digits are
pub digit_bounds : (n : ℕ) → n < 16 → (n ≤ 9 → hexadecimal_digit n ≡ 48 + n) × (10 ≤ n → hexadecimal_digit n ≡ 87 + n)
digit_bounds n low = (digit_below_ten n, digit_above_nine n)

-- ---- one byte more

pub spells_none : Spells [] []
spells_none = record { is = refl; are_bytes = All-nil IsByte }

pub spells_more : (b : ℕ) (spelled rest text : List ℕ) → b < 256 → spelled ≡ text_byte b ++ rest → Spells rest text → Spells spelled (b ∷ text)
spells_more b spelled rest text low is s = record {
  is = is ∙ ap (λ (l : List ℕ). text_byte b ++ l) s.is;
  are_bytes = All-cons IsByte b text low s.are_bytes;
}

-- the text that is left behind a byte
pub record SpellsLess (b : ℕ) (rest text : List ℕ) : Type 0 where
  pub left : List ℕ
  pub is : text ≡ b ∷ left
  pub spells : Spells rest left

pub spells_less : (b : ℕ) (spelled rest text : List ℕ) → spelled ≡ text_byte b ++ rest → Spells spelled text → SpellsLess b rest text
spells_less b spelled rest [] is s = absurd (some_bytes b rest (sym s.is ∙ is))
spells_less b spelled rest (c ∷ text) is s =
    let parts = byte_same b c rest (flat_map text_byte text) (sym is ∙ s.is) in
    record {
      left = text;
      is = ap (λ x. x ∷ text) (sym parts.0);
      spells = record { is = parts.1; are_bytes = All-tail IsByte c text s.are_bytes };
    }

-- what begins with no spelling spells no byte
pub spells_end : (spelled text : List ℕ) → BeginsUnspelled spelled → Spells spelled text → text ≡ []
spells_end spelled [] none s = refl
spells_end spelled (c ∷ text) none s = absurd (none c (flat_map text_byte text) (All-head IsByte c text s.are_bytes) s.is)

pub spelled_none : (spelled : List ℕ) → BeginsUnspelled spelled → AreSpelled spelled → spelled ≡ []
spelled_none spelled none s =
    let empty = spells_end spelled s.0 none s.1 in
    s.1.is ∙ ap (flat_map text_byte) empty

pub spelled_more : (spelled : List ℕ) (b size : ℕ) → BeginsSpelled spelled b size → AreSpelled (drop size spelled) → AreSpelled spelled
spelled_more spelled b size front s = (b ∷ s.0, spells_more b spelled (drop size spelled) s.0 front.is_byte front.is s.1)

pub spelled_less : (spelled : List ℕ) (b size : ℕ) → BeginsSpelled spelled b size → AreSpelled spelled → AreSpelled (drop size spelled)
spelled_less spelled b size front s =
    let less = spells_less b spelled (drop size spelled) s.0 front.is s.1 in
    (less.left, less.spells)

-- where no byte is spelled in front, a text is spelled exactly where nothing is left
pub spelled_at_end : (rest : List ℕ) (result : Bool) → result ≡ (length rest == 0) → BeginsUnspelled rest → IsTrue result ↔ AreSpelled rest
spelled_at_end [] result is none = (λ t. ([], spells_none), λ s. is)
spelled_at_end (b ∷ rest) result is none =
    let some : (length (b ∷ rest) == 0) ≡ false = ne_eqb (length (b ∷ rest)) 0 (λ e. omega (arith, e)) in
    (λ t. absurd (false≢true (sym some ∙ sym is ∙ t)), λ s. absurd (let empty = spelled_none (b ∷ rest) none s in absurd cc))

-- what is spelled is neither the word for none nor a text
pub no_text : (behind : List ℕ) → (behind ≡ codes "none" → ⊥) → ((text : List ℕ) → AreBytes text → behind ≡ quoted text → ⊥) → (text : Option (List ℕ)) → AreBytes (bytes_in text) → behind ≡ spelled_or_none text → ⊥
no_text behind n q None b e = n e
no_text behind n q (Some text) b e = q text b e
