-- The rows of bytes and their columns.
use Rattle.std.proofs.Common.{◌≡◌, ℕ, zero, suc, ◌+◌, ◌*◌, ◌/◌, ◌%◌, ◌<◌, ◌≤◌, Bool, true, false, List, [], ◌∷◌, ◌++◌, ◌⊎◌, inl, inr, Some, refl, sym, ap, ◌∙◌, subst, arith, length, get_or, take, drop, Contains, replicate, append_assoc, append-nil, length-append, nat_eq, Bor}
use Rattle.std.specs.Prelude.{if◌then◌else◌, slice_get}
use Rattle.std.specs.Int.{bit_at}
use Rattle.std.proofs.lemmas.Bool.{false≢true, cases_lt}
use Rattle.std.proofs.lemmas.List.{take_more, take_all, drop_all, length-map, get_or_push, get_or_append_left, get_or-replicate, get_or_past, length-replicate}
use Rattle.std.proofs.lemmas.List.Elements.{Contains-append_left, Contains-append_right, Contains-append_cases}
use Rattle.std.proofs.lemmas.Nat.Bits.{bit_at-zero}
use Rattle.cs_pattern_parts.specs.Items.Members.{has}
use Rattle.cs_pattern_parts.proofs.OnItems.Picked.{has-contains, contains-has}
use Rattle.cs_scanner.specs.Automaton.Bits.{bit, Puts}
use Rattle.cs_scanner.specs.Automaton.Programs.{values}
use Rattle.cs_scanner.specs.Automaton.Sets.{AddsOnce}
use Rattle.cs_scanner.specs.Automaton.States.{IsRow, class_has, with_byte}
use Rattle.cs_scanner.proofs.OnAutomaton.BitLemmas.{puts_on}
use Rattle.cs_scanner.proofs.OnAutomaton.Growing.{at_pushed, kept}
use Rattle.cs_scanner.proofs.OnAutomaton.Lists.{none_of, in_one}

-- ---- no bits

pub zeros : (width n : ℕ) → bit (replicate width 0) n ≡ false
zeros width n =
    elim (cases_lt (n / 64) width) [
      | inl lt ↦ ap (λ w. nat_eq (bit_at w (n % 64)) 1) (get_or-replicate width (n / 64) 0 0 lt) ∙ ap (λ k. nat_eq k 1) (bit_at-zero (n % 64))
      | inr le ↦ ap (λ w. nat_eq (bit_at w (n % 64)) 1) (get_or_past (replicate width 0) (n / 64) 0 (omega (arith, le, length-replicate {A = ℕ} width 0))) ∙ ap (λ k. nat_eq k 1) (bit_at-zero (n % 64))
    ]

-- what was written through a slice of a whole vector
pub written : {X : Type 0} (len : ℕ) (xs ys : List X) → len ≡ length ys → length xs ≡ length ys → take len (xs ++ drop (length xs) ys) ≡ xs
written len xs ys e f =
    let rest : drop (length xs) ys ≡ [] = drop_all (length xs) ys (omega arith) in
    let whole : xs ++ drop (length xs) ys ≡ xs = ap (λ t. xs ++ t) rest ∙ append-nil xs in
    ap (λ t. take len t) whole ∙ take_all len xs (omega arith)

-- ---- one class more

with_push : (from : ℕ) (cs : List (List ℕ)) (c : List ℕ) (byte n : ℕ) → n ≡ from + length cs → with_byte from (cs ++ c ∷ []) byte ≡ with_byte from cs byte ++ (if has c byte then n ∷ [] else [])
with_push from [] c byte n e =
    let same : from ≡ n = omega (arith, e) in
    append-nil (if has c byte then from ∷ [] else []) ∙ ap (λ m. if has c byte then m ∷ [] else []) same
with_push from (d ∷ cs) c byte n e =
    let here = if has d byte then from ∷ [] else [] in
    ap (λ t. here ++ t) (with_push (suc from) cs c byte n (omega (arith, e))) ∙ sym (append_assoc here (with_byte (suc from) cs byte) (if has c byte then n ∷ [] else []))

pub take_length : {X : Type 0} (n : ℕ) (xs : List X) → n ≤ length xs → length (take n xs) ≡ n
take_length zero xs le = refl
take_length (suc n) [] le = absurd (omega (arith, le))
take_length (suc n) (x ∷ xs) le = ap suc (take_length n xs (omega (arith, le)))

with_more : (cs : List (List ℕ)) (n byte : ℕ) → n < length cs → with_byte 0 (take (n + 1) cs) byte ≡ with_byte 0 (take n cs) byte ++ (if class_has cs n byte then n ∷ [] else [])
with_more cs n byte lt =
    ap (λ t. with_byte 0 t byte) (take_more cs n [] lt) ∙ with_push 0 (take n cs) (get_or cs n []) byte n (omega (arith, take_length n cs (omega (arith, lt))))

if_is : (b c : Bool) (n : ℕ) → b ≡ c → (if b then n ∷ [] else []) ≡ (if c then n ∷ [] else [])
if_is b c n e = ap (λ t. if t then n ∷ [] else []) e

pub mark_one : (old mid new : List ℕ) (cs : List (Bor (List ℕ))) (n byte : ℕ) (r : Bool) → n < length cs → r ≡ class_has (values cs) n byte → r ≡ true → Puts old mid (with_byte 0 (take n (values cs)) byte) → Puts mid new (n ∷ []) → Puts old new (with_byte 0 (take (n + 1) (values cs)) byte)
mark_one old mid new cs n byte r lt is holds p q =
    let more = with_more (values cs) n byte (omega (arith, lt, length-map cs (λ (b : Bor (List ℕ)). b.now))) ∙ ap (λ t. with_byte 0 (take n (values cs)) byte ++ t) (if_is (class_has (values cs) n byte) true n (sym is ∙ holds)) in
    subst (λ t. Puts old new t) (sym more) (puts_on old mid new (with_byte 0 (take n (values cs)) byte) (n ∷ []) p q)

pub mark_none : (old mid : List ℕ) (cs : List (Bor (List ℕ))) (n byte : ℕ) (r : Bool) → n < length cs → r ≡ class_has (values cs) n byte → r ≡ false → Puts old mid (with_byte 0 (take n (values cs)) byte) → Puts old mid (with_byte 0 (take (n + 1) (values cs)) byte)
mark_none old mid cs n byte r lt is fails p =
    let more = with_more (values cs) n byte (omega (arith, lt, length-map cs (λ (b : Bor (List ℕ)). b.now))) ∙ ap (λ t. with_byte 0 (take n (values cs)) byte ++ t) (if_is (class_has (values cs) n byte) false n (sym is ∙ fails)) in
    subst (λ t. Puts old mid t) (sym (more ∙ append-nil (with_byte 0 (take n (values cs)) byte))) p

pub mark_all : (old mid : List ℕ) (cs : List (Bor (List ℕ))) (n byte : ℕ) → length cs ≤ n → Puts old mid (with_byte 0 (take n (values cs)) byte) → Puts old mid (with_byte 0 (values cs) byte)
mark_all old mid cs n byte le p =
    subst (λ t. Puts old mid (with_byte 0 t byte)) (take_all n (values cs) (omega (arith, le, length-map cs (λ (b : Bor (List ℕ)). b.now)))) p

-- ---- the row of a byte

record Numbered (cs : List (List ℕ)) (from byte n : ℕ) : Type 0 where
  index : ℕ
  number : n ≡ from + index
  class : List ℕ
  at : slice_get cs index ≡ Some class
  has_it : has class byte ≡ true

numbered_class : (from : ℕ) (cs : List (List ℕ)) (byte n : ℕ) → Contains (with_byte from cs byte) n → Numbered cs from byte n
numbered_class from [] byte n c = absurd (none_of n c)
numbered_class from (d ∷ cs) byte n c =
    elim (Contains-append_cases (if has d byte then from ∷ [] else []) (with_byte (suc from) cs byte) n c) [
      | inl l ↦ let p = in_one (has d byte) from n l in record { index = 0; number = omega (arith, p.1); class = d; at = refl; has_it = p.0 }
      | inr r ↦ let g = numbered_class (suc from) cs byte n r in record { index = suc g.index; number = omega (arith, g.number); class = g.class; at = g.at; has_it = g.has_it }
    ]

class_number : (from : ℕ) (cs : List (List ℕ)) (byte index n : ℕ) (class : List ℕ) → n ≡ from + index → slice_get cs index ≡ Some class → has class byte ≡ true → Contains (with_byte from cs byte) n
class_number from [] byte index n class e at h = absurd cc
class_number from (d ∷ cs) byte zero n class e at h =
    let same : class ≡ d = cc in
    let holds : has d byte ≡ true = ap (λ t. has t byte) (sym same) ∙ h in
    let number : from ≡ n = omega (arith, e) in
    let P : Bool → Type 0 = λ t. Contains (if t then from ∷ [] else []) n in
    Contains-append_left (if has d byte then from ∷ [] else []) (with_byte (suc from) cs byte) n (subst P (sym holds) (0, omega arith, number))
class_number from (d ∷ cs) byte (suc index) n class e at h =
    Contains-append_right (if has d byte then from ∷ [] else []) (with_byte (suc from) cs byte) n (class_number (suc from) cs byte index n class (omega (arith, e)) at h)

get_within : {X : Type 0} (xs : List X) (k : ℕ) (x : X) → slice_get xs k ≡ Some x → k < length xs
get_within [] k x e = absurd cc
get_within (y ∷ xs) zero x e = omega arith
get_within (y ∷ xs) (suc k) x e = omega (arith, get_within xs k x e)

pub row_is : (cs : List (Bor (List ℕ))) (width byte : ℕ) (new : List ℕ) → length cs ≤ 64 * width → Puts (replicate width 0) new (with_byte 0 (values cs) byte) → IsRow (values cs) byte new
row_is cs width byte new le p =
    record {
      has = λ n h.
          elim (p.others n h) [
            | inl o ↦ absurd (false≢true (sym (zeros width n) ∙ o))
            | inr c ↦
                let g = numbered_class 0 (values cs) byte n c in
                let same : g.index ≡ n = omega (arith, g.number) in
                record { class = g.class; at = subst (λ m. slice_get (values cs) m ≡ Some g.class) same g.at; has = has-contains g.class byte g.has_it }
          ];
      all = λ n h.
          p.added n (class_number 0 (values cs) byte n n h.class (omega arith) h.at (contains-has h.class byte h.has))
          (omega (arith, le, p.long, length-replicate {A = ℕ} width 0, get_within (values cs) n h.class h.at, length-map cs (λ (b : Bor (List ℕ)). b.now)));
    }

-- ---- one byte more

pub once_kept : (old new : List (List ℕ)) (set : List ℕ) → AddsOnce old new set → (k : ℕ) (x : List ℕ) → slice_get old k ≡ Some x → slice_get new k ≡ Some x
once_kept old new set (inl e) k x at = subst (λ t. slice_get t k ≡ Some x) (sym e) at
once_kept old new set (inr more) k x at = subst (λ t. slice_get t k ≡ Some x) (sym more.0) (kept old set x k at)

pub once_length : (old new : List (List ℕ)) (set : List ℕ) → AddsOnce old new set → length new ≤ length old + 1
once_length old new set (inl e) = omega (arith, ap length e)
once_length old new set (inr more) = omega (arith, ap length more.0, length-append old (set ∷ []))

pub once_cases : (old new : List (List ℕ)) (set : List ℕ) → AddsOnce old new set → (k : ℕ) (x : List ℕ) → slice_get new k ≡ Some x → (slice_get old k ≡ Some x) ⊎ (set ≡ x)
once_cases old new set (inl e) k x at = inl (subst (λ t. slice_get t k ≡ Some x) e at)
once_cases old new set (inr more) k x at = elim (at_pushed old set x k (subst (λ t. slice_get t k ≡ Some x) more.0 at)) [ inl o ↦ inl o | inr n ↦ inr n.1 ]

abbrev pub Found : List (List ℕ) → List (List ℕ) → List ℕ → ℕ → Type 0
Found classes rows column_of b = (row : List ℕ) × (slice_get rows (get_or column_of b 0) ≡ Some row) × IsRow classes b row

abbrev pub Made : List (List ℕ) → ℕ → List (List ℕ) → Type 0
Made classes width rows = (k : ℕ) (row : List ℕ) → slice_get rows k ≡ Some row → (length row ≡ width) × ((b : ℕ) × (b < 256) × IsRow classes b row)

pub found_more : (classes old new : List (List ℕ)) (column_of now : List ℕ) (byte column : ℕ) (row : List ℕ) → length column_of ≡ byte → now ≡ column_of ++ column ∷ [] → AddsOnce old new row → slice_get new column ≡ Some row → IsRow classes byte row → ((b : ℕ) → b < byte → Found classes old column_of b) → (b : ℕ) → b < byte + 1 → Found classes new now b
found_more classes old new column_of now byte column row many is once at is_row h b lt =
    elim (cases_lt b byte) [
      | inl below ↦
          let f = h b below in
          let same : get_or column_of b 0 ≡ get_or now b 0 = sym (ap (λ t. get_or t b 0) is ∙ get_or_append_left column_of (column ∷ []) 0 b (omega (arith, below, many))) in
          (f.0, subst (λ n. slice_get new n ≡ Some f.0) same (once_kept old new row once (get_or column_of b 0) f.0 f.1), f.2)
      | inr above ↦
          let e : byte ≡ b = omega (arith, above, lt) in
          let same : column ≡ get_or now b 0 = sym (ap (λ t. get_or t b 0) is ∙ get_or_push column_of column 0 b (omega (arith, many, e))) in
          (row, subst (λ n. slice_get new n ≡ Some row) same at, subst (λ n. IsRow classes n row) e is_row)
    ]

pub made_more : (classes old new : List (List ℕ)) (width byte : ℕ) (row : List ℕ) → byte < 256 → AddsOnce old new row → length row ≡ width → IsRow classes byte row → Made classes width old → Made classes width new
made_more classes old new width byte row fits once long is h k r at =
    elim (once_cases old new row once k r at) [
      | inl o ↦ h k r o
      | inr e ↦ subst (λ t. (length t ≡ width) × ((b : ℕ) × (b < 256) × IsRow classes b t)) e (long, (byte, fits, is))
    ]
