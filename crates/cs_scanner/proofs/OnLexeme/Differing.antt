-- Where two texts of one length first differ.
use Rattle.std.proofs.Common.{◌≡◌, ℕ, zero, suc, ◌<◌, ◌≤◌, ◌⊎◌, ◌↔◌, arith, List, [], ◌∷◌, ◌++◌, length, take, sym, ap, subst, inl, inr, refl, ⊎_elim}
use Rattle.std.specs.Prelude.{slice_index, IsTrue, nat_lt}
use Rattle.std.proofs.lemmas.List.{take_all}
use Rattle.std.proofs.lemmas.Bool.Decides.{nat_tests}
use Rattle.cs_scanner.specs.Lexeme.Rank.{rank}
use Rattle.cs_scanner.specs.Lexeme.Order.{IsBefore, IsRankedBefore}
use Rattle.cs_scanner.proofs.OnLexeme.Numbers.{behind_byte, first_differs}

-- the first bytes are those that differ, or are the same
ranked_first : (a b : ℕ) (x y front : List ℕ) (byte other : ℕ) (behind others : List ℕ) → a ∷ x ≡ front ++ byte ∷ behind → b ∷ y ≡ front ++ other ∷ others → rank byte < rank other → (rank a < rank b) ⊎ ((a ≡ b) × IsRankedBefore x y)
ranked_first a b x y [] byte other behind others has has_other lower =
    let e1 : a ≡ byte = cc in
    let e2 : b ≡ other = cc in
    let P : ℕ → Type 0 = λ t. rank t < rank b in
    let Q : ℕ → Type 0 = λ t. rank byte < rank t in
    inl (subst P (sym e1) (subst Q (sym e2) lower))
ranked_first a b x y (c ∷ front) byte other behind others has has_other lower =
    inr (cc, record { front = front; byte = byte; other = other; behind = behind; others = others; has = cc; has_other = cc; lower = lower })

pub before_first : (a b : ℕ) (x y : List ℕ) → length x ≡ length y → IsBefore (a ∷ x) (b ∷ y) → (rank a < rank b) ⊎ ((a ≡ b) × IsBefore x y)
before_first a b x y same before = ⊎_elim
    (λ (shorter : suc (length x) < suc (length y)). absurd (omega arith))
    (λ (r : (suc (length x) ≡ suc (length y)) × IsRankedBefore (a ∷ x) (b ∷ y)). ⊎_elim
    (λ (less : rank a < rank b). inl less)
    (λ (later : (a ≡ b) × IsRankedBefore x y). inr (later.0, inr (same, later.1)))
    (ranked_first a b x y r.1.front r.1.byte r.1.other r.1.behind r.1.others r.1.has r.1.has_other r.1.lower))
    before

-- no text comes before itself
pub not_before_itself : (x : List ℕ) → IsBefore x x → ⊥
not_before_itself [] before = ⊎_elim
    (λ (shorter : 0 < 0). absurd (omega arith))
    (λ (r : (0 ≡ 0) × IsRankedBefore [] []). nothing r.1.front r.1.byte r.1.behind r.1.has)
    before
  where
    nothing : (front : List ℕ) (byte : ℕ) (behind : List ℕ) → [] ≡ front ++ byte ∷ behind → ⊥
    nothing [] byte behind e = absurd (cc)
    nothing (c ∷ front) byte behind e = absurd (cc)
not_before_itself (a ∷ x) before = ⊎_elim
    (λ (less : rank a < rank a). absurd (omega arith))
    (λ (later : (a ≡ a) × IsBefore x x). not_before_itself x later.1)
    (before_first a a x x refl before)

-- at the first place where the texts differ the ranks decide
pub differs_at : (i : ℕ) (x y : List ℕ) → i < length x → length x ≡ length y → take i x ≡ take i y → (slice_index x i ≡ slice_index y i → ⊥) → (rank (slice_index x i) < rank (slice_index y i)) ↔ IsBefore x y
differs_at i [] y within same front differ = absurd (omega arith)
differs_at i (a ∷ x) [] within same front differ = absurd (omega arith)
differs_at zero (a ∷ x) (b ∷ y) within same front differ = (
  (λ less. inr (same, first_differs a b x y less)),
  (λ before. ⊎_elim
      (λ (less : rank a < rank b). less)
      (λ (later : (a ≡ b) × IsBefore x y). absurd (differ later.0))
      (before_first a b x y (omega arith) before)),
)
differs_at (suc i) (a ∷ x) (b ∷ y) within same front differ =
    let e : a ≡ b = cc in
    let it = differs_at i x y (omega arith) (omega arith) (cc) differ in
    let P : ℕ → Type 0 = λ t. IsBefore (a ∷ x) (t ∷ y) in (
      (λ less. subst P e (behind a x y (omega arith) (it.0 less))),
      (λ before. ⊎_elim
          (λ (less : rank a < rank b). let r = ap rank e in absurd (omega arith))
          (λ (later : (a ≡ b) × IsBefore x y). it.1 later.1)
          (before_first a b x y (omega arith) before)),
    )
  where
    behind : (a : ℕ) (x y : List ℕ) → length x ≡ length y → IsBefore x y → IsBefore (a ∷ x) (a ∷ y)
    behind a x y same before = ⊎_elim
        (λ (shorter : length x < length y). absurd (omega arith))
        (λ (r : (length x ≡ length y) × IsRankedBefore x y). inr (ap suc same, behind_byte a x y r.1))
        before

-- what `<` answers
pub test_is_less : (m n : ℕ) → IsTrue (nat_lt m n) → m < n
test_is_less m n test = grind (arith, nat_tests)

pub less_is_test : (m n : ℕ) → m < n → IsTrue (nat_lt m n)
less_is_test m n less = grind (arith, nat_tests)

-- texts of one length that are the same up to their ends
pub same_if_taken : (i : ℕ) (x y : List ℕ) → length x ≤ i → length x ≡ length y → take i x ≡ take i y → IsBefore x y → ⊥
same_if_taken i x y whole same front before =
    let e : x ≡ y = cc (take_all i x whole, take_all i y (omega arith)) in
    let P : List ℕ → Type 0 = λ t. IsBefore x t in
    not_before_itself x (subst P (sym e) before)
