-- Sets of numbers as bits, and as words.
use Rattle.std.proofs.Common.{◌≡◌, ℕ, zero, suc, ◌+◌, ◌*◌, ◌/◌, ◌%◌, ◌^◌, ◌<◌, ◌≤◌, ◌⊎◌, inl, inr, List, [], ◌∷◌, ◌++◌, length, take, refl, sym, ap, ◌∙◌, subst, arith, get_or, w64}
use Rattle.std.specs.Prelude.{◌↔◌, bit_or}
use Rattle.std.specs.Int.{bit_at}
use Rattle.std.proofs.Math.ListN.{set}
use Rattle.std.proofs.lemmas.List.{get_or-set_same, get_or-set_other, take_more, get_or_past}
use Rattle.std.proofs.lemmas.Bool.{cases_eq, cases_lt}
use Rattle.std.proofs.lemmas.List.Elements.{Contains-push, Contains-push_cases, Contains-append_left}
use Rattle.std.proofs.lemmas.Nat.Bits.{bit_at_or, bit_at-lt, bit_at-zero, bit_at_set_same, bit_at_set_other}
use Rattle.cs_member.specs.declared.tables.word.Word.{Word}
use Rattle.cs_member.specs.Tables.Sets.{Has, InWord, InWords}

pub get_or-pad : (xs : List ℕ) (n : ℕ) → get_or (xs ++ 0 ∷ []) n 0 ≡ get_or xs n 0
get_or-pad [] zero = refl
get_or-pad [] (suc n) = refl
get_or-pad (x ∷ xs) zero = refl
get_or-pad (x ∷ xs) (suc n) = get_or-pad xs n

-- bits are or-ed into a set that has room for them
pub or_bits : (old wide : List ℕ) (at bits : ℕ) → at < length wide → ((n : ℕ) → get_or wide n 0 ≡ get_or old n 0) → (n i : ℕ) → (bit_at (get_or (set wide at (bit_or (get_or wide at 0) bits)) n 0) i ≡ 1) ↔ ((bit_at (get_or old n 0) i ≡ 1) ⊎ ((at ≡ n) × (bit_at bits i ≡ 1)))
or_bits old wide at bits within same n i =
    let new : List ℕ = set wide at (bit_or (get_or wide at 0) bits) in
    elim (cases_eq n at) [
      | inl here ↦
          let value : get_or new n 0 ≡ bit_or (get_or wide at 0) bits = ap (λ k. get_or new k 0) here ∙ get_or-set_same wide at (bit_or (get_or wide at 0) bits) 0 within in
          let was : get_or wide at 0 ≡ get_or old n 0 = ap (λ k. get_or wide k 0) (sym here) ∙ same n in
          let b : bit_at (get_or new n 0) i ≡ bit_at (bit_or (get_or old n 0) bits) i = ap (λ v. bit_at v i) (value ∙ ap (λ v. bit_or v bits) was) in
          let max = bit_at_or (get_or old n 0) bits i in
          let low = bit_at-lt (get_or old n 0) i in
          let high = bit_at-lt bits i in (
            (λ has. elim (cases_eq (bit_at bits i) 1) [
              | inl set ↦ inr (sym here, set)
              | inr clear ↦ inl (omega arith)
            ]),
            (λ either. elim either [
              | inl before ↦ omega arith
              | inr now ↦ (let h = now.1 in omega arith)
            ]),
          )
      | inr other ↦
          let value : get_or new n 0 ≡ get_or old n 0 = get_or-set_other wide at n (bit_or (get_or wide at 0) bits) 0 other ∙ same n in
          let b : bit_at (get_or new n 0) i ≡ bit_at (get_or old n 0) i = ap (λ v. bit_at v i) value in (
            (λ has. inl (sym b ∙ has)),
            (λ either. elim either [
              | inl before ↦ b ∙ before
              | inr now ↦ absurd (other (sym now.0))
            ]),
          )
    ]

pub in_more : (words : List Word) (word : Word) (n : ℕ) → InWords (words ++ word ∷ []) n ↔ (InWords words n ⊎ InWord word n)
in_more words word n = (
  (λ has. elim (Contains-push_cases words word has.0 has.1) [
    | inl before ↦ inl (has.0, before, has.2)
    | inr now ↦ inr (subst (λ (w : Word). InWord w n) (sym now) has.2)
  ]),
  (λ either. elim either [
    | inl before ↦ (before.0, Contains-append_left words (word ∷ []) before.0 before.1, before.2)
    | inr now ↦ (word, Contains-push words word, now)
  ]),
)

pub get_or-other_default : (xs : List ℕ) (n d e : ℕ) → n < length xs → get_or xs n d ≡ get_or xs n e
get_or-other_default [] n d e lt = absurd (omega arith)
get_or-other_default (x ∷ xs) zero d e lt = refl
get_or-other_default (x ∷ xs) (suc n) d e lt = get_or-other_default xs n d e (omega arith)

pub or_bits_read : (old wide : List ℕ) (at bits cell : ℕ) → at < length wide → cell ≡ get_or wide at cell → ((n : ℕ) → get_or wide n 0 ≡ get_or old n 0) → (n i : ℕ) → (bit_at (get_or (set wide at (bit_or cell bits)) n 0) i ≡ 1) ↔ ((bit_at (get_or old n 0) i ≡ 1) ⊎ ((at ≡ n) × (bit_at bits i ≡ 1)))
or_bits_read old wide at bits cell within read same n i =
    let is : get_or wide at 0 ≡ cell = get_or-other_default wide at 0 cell within ∙ sym read in
    subst (λ v. (bit_at (get_or (set wide at (bit_or v bits)) n 0) i ≡ 1) ↔ ((bit_at (get_or old n 0) i ≡ 1) ⊎ ((at ≡ n) × (bit_at bits i ≡ 1)))) is (or_bits old wide at bits within same n i)

pub one_bit : (k i : ℕ) → k < 64 → (bit_at (1 * 2 ^ k % 2 ^ 64) i ≡ 1) ↔ (i ≡ k)
one_bit k i lt =
    let bits : ℕ = 1 * 2 ^ k % 2 ^ 64 in
    let max = bit_at_or 0 bits i in
    let none = bit_at-zero i in
    elim (cases_eq i k) [
      | inl here ↦
          let set : bit_at (bit_or 0 bits) i ≡ 1 = ap (λ n. bit_at (bit_or 0 bits) n) here ∙ bit_at_set_same w64 0 k lt in
          ((λ h. here), (λ h. omega arith))
      | inr other ↦
          let clear : bit_at (bit_or 0 bits) i ≡ bit_at 0 i = bit_at_set_other w64 0 k lt i other in
          ((λ h. absurd (omega arith)), (λ h. absurd (other h)))
    ]

pub in_word_of : (number n : ℕ) → InWord (record { at = number / 64; bits = 1 * 2 ^ (number % 64) % 2 ^ 64 }) n ↔ (n ≡ number)
in_word_of number n =
    let one = one_bit (number % 64) (n % 64) (omega arith) in (
      (λ h. let low = one.0 h.1 in let high = h.0 in omega arith),
      (λ h. (ap (λ k. k / 64) (sym h), one.1 (ap (λ k. k % 64) h))),
    )

-- the words so far, and one more
pub in_take : (words : List Word) (k : ℕ) (d : Word) (n : ℕ) → k < length words → InWords (take (k + 1) words) n ↔ (InWords (take k words) n ⊎ InWord (get_or words k d) n)
in_take words k d n lt = subst (λ (l : List Word). InWords l n ↔ (InWords (take k words) n ⊎ InWord (get_or words k d) n)) (sym (take_more words k d lt)) (in_more (take k words) (get_or words k d) n)

-- bits that aren't 0 are packed
pub packed : (set : List ℕ) (words : List Word) (at : ℕ) (n : ℕ) → (InWords words n ↔ ((n / 64 < at) × Has set n)) → InWords (words ++ record { at = at; bits = get_or set at 0 } ∷ []) n ↔ ((n / 64 < at + 1) × Has set n)
packed set words at n before =
    let word : Word = record { at = at; bits = get_or set at 0 } in
    let more = in_more words word n in (
      (λ h. elim (more.0 h) [
        | inl old ↦ (let b = before.0 old in (let lt = b.0 in omega arith, b.1))
        | inr now ↦ ((let same = now.0 in omega arith), ap (λ k. bit_at (get_or set k 0) (n % 64)) (sym now.0) ∙ now.1)
      ]),
      (λ h. elim (cases_eq (n / 64) at) [
        | inl same ↦ more.1 (inr (sym same, ap (λ k. bit_at (get_or set k 0) (n % 64)) (sym same) ∙ h.1))
        | inr other ↦ more.1 (inl (before.1 ((let lt = h.0 in omega arith), h.1)))
      ]),
    )

-- bits that are 0 are left out
pub left_out : (set : List ℕ) (words : List Word) (at : ℕ) (n : ℕ) → get_or set at 0 ≡ 0 → (InWords words n ↔ ((n / 64 < at) × Has set n)) → InWords words n ↔ ((n / 64 < at + 1) × Has set n)
left_out set words at n none before = (
  (λ h. let b = before.0 h in (let lt = b.0 in omega arith, b.1)),
  (λ h. elim (cases_eq (n / 64) at) [
    | inl same ↦
        let zero : bit_at (get_or set (n / 64) 0) (n % 64) ≡ 0 = ap (λ k. bit_at (get_or set k 0) (n % 64)) same ∙ (ap (λ b. bit_at b (n % 64)) none ∙ bit_at-zero (n % 64)) in
        absurd (let one = h.1 in omega arith)
    | inr other ↦ before.1 ((let lt = h.0 in omega arith), h.1)
  ]),
)

-- past the set nothing is
pub all_packed : (set : List ℕ) (words : List Word) (at : ℕ) (n : ℕ) → length set ≤ at → (InWords words n ↔ ((n / 64 < at) × Has set n)) → InWords words n ↔ Has set n
all_packed set words at n whole before = (
  (λ h. (before.0 h).1),
  (λ h. elim (cases_lt (n / 64) at) [
    | inl lt ↦ before.1 (lt, h)
    | inr ge ↦
        let past : get_or set (n / 64) 0 ≡ 0 = get_or_past set (n / 64) 0 (omega arith) in
        let zero : bit_at (get_or set (n / 64) 0) (n % 64) ≡ 0 = ap (λ b. bit_at b (n % 64)) past ∙ bit_at-zero (n % 64) in
        absurd (omega arith)
  ]),
)

pub joins : (A B C : Type 0) (words : List Word) (k : ℕ) (d : Word) (n : ℕ) → k < length words → (B ↔ (A ⊎ InWords (take k words) n)) → (C ↔ (B ⊎ InWord (get_or words k d) n)) → C ↔ (A ⊎ InWords (take (k + 1) words) n)
joins A B C words k d n lt before now =
    let more = in_take words k d n lt in (
      (λ c. elim (now.0 c) [
        | inl b ↦ elim (before.0 b) [
          | inl a ↦ inl a
          | inr old ↦ inr (more.1 (inl old))
        ]
        | inr new ↦ inr (more.1 (inr new))
      ]),
      (λ h. elim h [
        | inl a ↦ now.1 (inl (before.1 (inl a)))
        | inr w ↦ elim (more.0 w) [
          | inl old ↦ now.1 (inl (before.1 (inr old)))
          | inr new ↦ now.1 (inr new)
        ]
      ]),
    )
