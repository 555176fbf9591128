-- Spans that are added to those that are there.
use Rattle.std.proofs.Common.{◌≡◌, ℕ, ◌+◌, ◌*◌, ◌/◌, ◌%◌, ◌^◌, ◌<◌, ◌≤◌, ◌⊎◌, inl, inr, List, [], ◌++◌, Option, Some, length, take, sym, ap, ◌∙◌, subst, arith, w64, append_assoc, get_or}
use Rattle.std.specs.Prelude.{slice_get, bit_and}
use Rattle.std.specs.Int.{bit_at, bit_not}
use Rattle.std.proofs.lemmas.Bool.{cases_eq}
use Rattle.std.proofs.lemmas.List.Elements.{All-append}
use Rattle.std.proofs.lemmas.Option.{slice_get_within, same_Some}
use Rattle.std.proofs.lemmas.Nat.{div-mul-add}
use Rattle.std.proofs.lemmas.Nat.Bits.{bit_at-lt, bit_at-zero, bit_at_and, bit_at_not}
use Rattle.cs_member.specs.declared.tables.word.Word.{Word}
use Rattle.cs_member.specs.declared.chart.now.Span.{Span}
use Rattle.cs_member.specs.Tables.Sets.{InWord, InWords}
use Rattle.cs_member.specs.Tables.Asked.{HasBitsAlso}
use Rattle.cs_member.specs.Chart.Now.{SpansIn, HasEnd, AreEnds, Ends}
use Rattle.cs_member.proofs.OnTables.Bits.{in_take}
use Rattle.cs_member.proofs.OnChart.Rows.{Are, are_more, all_more, spans_left}

abbrev pub fresh : Word → ℕ → Word
fresh word was = record { at = word.at; bits = bit_and word.bits (bit_not w64 was) }

fresh_more : (word : Word) (was j : ℕ) → InWord (fresh word was) j → InWord word j
fresh_more word was j h =
    let and = bit_at_and word.bits (bit_not w64 was) (j % 64) in
    let low = bit_at-lt word.bits (j % 64) in
    (h.0, let one = h.1 in omega arith)

fresh_less : (word : Word) (was j : ℕ) → was < 2 ^ 64 → InWord word j → InWord (fresh word was) j ⊎ (bit_at was (j % 64) ≡ 1)
fresh_less word was j fits h =
    let and = bit_at_and word.bits (bit_not w64 was) (j % 64) in
    let not = bit_at_not w64 was (j % 64) fits (omega arith) in
    let low = bit_at-lt was (j % 64) in
    elim (cases_eq (bit_at was (j % 64)) 1) [
      | inl one ↦ inr one
      | inr other ↦ inl (h.0, let one = h.1 in omega arith)
    ]

pub ends_fresh : (left : ℕ) (cause : Option ℕ) (word : Word) (was : ℕ) (old new : List Span) → was < 2 ^ 64 → ((j : ℕ) → word.at ≡ j / 64 → bit_at was (j % 64) ≡ 1 → SpansIn old left j) → Ends left cause (InWord (fresh word was)) old new → Ends left cause (InWord word) old new
ends_fresh left cause word was old new fits there ends = record {
  more = ends.more;
  grown = ends.grown;
  are = all_more (Are left cause (InWord (fresh word was))) (Are left cause (InWord word)) ends.more (λ s h. are_more left cause (InWord (fresh word was)) (InWord word) (λ j. fresh_more word was j) s h) ends.are;
  found = λ j h. elim (fresh_less word was j fits h) [
    | inl now ↦ ends.found j now
    | inr before ↦ spans_left old ends.more new left j ends.grown (there j h.0 before)
  ];
}

-- a place has one word of positions and one nonterminal
one_place : (many p a q b : ℕ) → a < many → b < many → p * many + a ≡ q * many + b → (p ≡ q) × (a ≡ b)
one_place many p a q b la lb same =
    let is : p ≡ q = sym (div-mul-add p many a la) ∙ (ap (λ n. n / many) same ∙ div-mul-add q many b lb) in
    let product : p * many ≡ q * many = ap (λ n. n * many) is in
    (is, omega arith)

-- after the bits are put too
pub are_ends : (many left : ℕ) (cause : Option ℕ) (word : Word) (ends put : List ℕ) (old new : List Span) → left < many → HasBitsAlso (word.at * many + left) word.bits ends put → AreEnds many ends old → Ends left cause (InWord word) old new → AreEnds many put new
are_ends many left cause word ends put old new within has before found = λ a j lt bit.
    elim ((has (j / 64 * many + a) (j % 64)).0 bit) [
      | inl was ↦ spans_left old found.more new a j found.grown (before a j lt was)
      | inr now ↦
          let one = one_place many word.at left (j / 64) a within lt now.0 in
          subst (λ n. SpansIn new n j) one.1 (found.found j (one.0, now.1))
    ]

-- the bits are of spans from a number on
abbrev pub AreEndsFrom : ℕ → List ℕ → List Span → ℕ → Type 0
AreEndsFrom many ends spans k = (a j : ℕ) → a < many → HasEnd many ends a j
    → (n : ℕ) × (s : Span) × (k ≤ n) × (slice_get spans n ≡ Some s) × (s.nonterminal ≡ a) × (s.from ≡ j)

abbrev pub place_of : ℕ → Span → ℕ
place_of many s = s.from / 64 * many + s.nonterminal

pub ends_all : (many : ℕ) (ends : List ℕ) (spans : List Span) → AreEnds many ends spans → AreEndsFrom many ends spans 0
ends_all many ends spans are = λ a j lt bit. let h = are a j lt bit in (h.0, h.1, omega arith, h.2, h.3, h.4)

-- where each of the spans was passed no bit is left
pub ends_over : (many : ℕ) (ends : List ℕ) (spans : List Span) (k : ℕ) → length spans ≤ k → AreEndsFrom many ends spans k → AreEnds many ends []
ends_over many ends spans k past are = λ a j lt bit.
    let h = are a j lt bit in
    let within = slice_get_within spans h.0 h.1 h.3 in
    let low = h.2 in
    absurd (omega arith)

-- the bits at the place of a span are taken away
pub ends_less : (many : ℕ) (ends less : List ℕ) (spans : List Span) (k : ℕ) (s : Span) → slice_get spans k ≡ Some s → get_or less (place_of many s) 0 ≡ 0 → ((n : ℕ) → (n ≡ place_of many s → ⊥) → get_or less n 0 ≡ get_or ends n 0) → AreEndsFrom many ends spans k → AreEndsFrom many less spans (k + 1)
ends_less many ends less spans k s at none rest are = λ a j lt bit.
    let place : ℕ = j / 64 * many + a in
    elim (cases_eq place (place_of many s)) [
      | inl here ↦
          let zero : bit_at (get_or less place 0) (j % 64) ≡ 0 = ap (λ v. bit_at v (j % 64)) (ap (λ n. get_or less n 0) here ∙ none) ∙ bit_at-zero (j % 64) in
          absurd (omega arith)
      | inr other ↦
          let h = are a j lt (sym (ap (λ v. bit_at v (j % 64)) (rest place other)) ∙ bit) in
          let later : h.0 ≡ k → ⊥ = λ is.
          let one : s ≡ h.1 = same_Some s h.1 (sym at ∙ (ap (λ n. slice_get spans n) (sym is) ∙ h.3)) in
          let from : s.from ≡ j = ap (λ (t : Span). t.from) one ∙ h.5 in
          let left : s.nonterminal ≡ a = ap (λ (t : Span). t.nonterminal) one ∙ h.4 in
          other (sym (ap (λ n. n / 64 * many + s.nonterminal) from ∙ ap (λ n. j / 64 * many + n) left)) in (
            h.0,
            h.1,
            elim (cases_eq h.0 k) [
              | inl same ↦ absurd (later same)
              | inr not ↦ (let low = h.2 in omega arith)
            ],
            h.3,
            h.4,
            h.5,
          )
    ]

-- one after the other
pub ends_then : (left : ℕ) (cause : Option ℕ) (P R Q : ℕ → Type 0) (old mid new : List Span) → Ends left cause P old mid → Ends left cause R mid new → ((j : ℕ) → P j → Q j) → ((j : ℕ) → R j → Q j) → ((j : ℕ) → Q j → P j ⊎ R j) → Ends left cause Q old new
ends_then left cause P R Q old mid new first second p r q = record {
  more = first.more ++ second.more;
  grown = second.grown ∙ (ap (λ (l : List Span). l ++ second.more) first.grown ∙ append_assoc old first.more second.more);
  are = All-append (Are left cause Q) first.more second.more
      (all_more (Are left cause P) (Are left cause Q) first.more (λ s h. are_more left cause P Q p s h) first.are)
      (all_more (Are left cause R) (Are left cause Q) second.more (λ s h. are_more left cause R Q r s h) second.are);
  found = λ j h. elim (q j h) [
    | inl before ↦ spans_left mid second.more new left j second.grown (first.found j before)
    | inr now ↦ second.found j now
  ];
}

pub ends_words : (left : ℕ) (cause : Option ℕ) (words : List Word) (k : ℕ) (d : Word) (old mid new : List Span) → k < length words → Ends left cause (InWords (take k words)) old mid → Ends left cause (InWord (get_or words k d)) mid new → Ends left cause (InWords (take (k + 1) words)) old new
ends_words left cause words k d old mid new lt first second =
    ends_then left cause (InWords (take k words)) (InWord (get_or words k d)) (InWords (take (k + 1) words)) old mid new first second
    (λ j h. (in_take words k d j lt).1 (inl h))
    (λ j h. (in_take words k d j lt).1 (inr h))
    (λ j h. (in_take words k d j lt).0 h)
