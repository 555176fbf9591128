-- What stands at the position that is being made, and the spans that end there.
use Rattle.std.proofs.Common.{◌≡◌, ℕ, ◌+◌, ◌*◌, ◌/◌, ◌%◌, ◌^◌, ◌<◌, ◌⊎◌, inl, inr, List, [], ◌∷◌, ◌++◌, Option, Some, length, refl, sym, ap, ◌∙◌, subst, arith, w64, append_assoc, append-nil}
use Rattle.std.specs.Prelude.{All, ◌↔◌, slice_get, bit_and}
use Rattle.std.specs.Int.{bit_at, bit_not}
use Rattle.std.proofs.Math.ListN.{set}
use Rattle.std.proofs.lemmas.Bool.{cases_eq}
use Rattle.std.proofs.lemmas.Option.{slice_get_within, same_Some}
use Rattle.std.proofs.lemmas.List.Elements.{All-push, All-nil}
use Rattle.std.proofs.lemmas.Nat.{and_le_l}
use Rattle.std.proofs.lemmas.Nat.Bits.{bit_at-zero, bit_at_clear_same, bit_at_clear_other}
use Rattle.cs_member.specs.declared.tables.item.Item.{Item}
use Rattle.cs_member.specs.declared.tables.word.Word.{Word}
use Rattle.cs_member.specs.declared.chart.now.Origins.{Origins}
use Rattle.cs_member.specs.declared.chart.now.Span.{Span}
use Rattle.cs_member.specs.Tables.Sets.{Has, InWord}
use Rattle.cs_member.specs.Chart.Now.{StandsIn, SpansIn, Stood, Ends}
use Rattle.cs_member.proofs.OnTables.Places.{at_left, at_end, at_push_cases, at_set_cases, at_set, at_set_other}

-- the set at a place gets more numbers
pub stood_at : (rows : List Origins) (place : ℕ) (o p : Origins) (From : ℕ → Type 0) → slice_get rows place ≡ Some o → p.item ≡ o.item → ((n : ℕ) → Has p.set.items n ↔ (Has o.set.items n ⊎ From n)) → Stood o.item From rows (set rows place p)
stood_at rows place o p From at same has x j =
    let within = slice_get_within rows place o at in (
      (λ h. let k = h.0 in let q = h.1 in let there = h.2 in let is = h.3 in let bit = h.4 in
          elim (at_set_cases rows place k p q there) [
            | inl here ↦
                let item : p.item ≡ x = ap (λ (r : Origins). r.item) here.1 ∙ is in
                let bits : Has p.set.items j = subst (λ (r : Origins). Has r.set.items j) (sym here.1) bit in
                elim ((has j).0 bits) [
                  | inl old ↦ inl (place, o, at, sym same ∙ item, old)
                  | inr from ↦ inr (sym same ∙ item, from)
                ]
            | inr other ↦ inl (k, q, other, is, bit)
          ]),
      (λ h. elim h [
        | inl old ↦
            let k = old.0 in let q = old.1 in let there = old.2 in let is = old.3 in let bit = old.4 in
            elim (cases_eq k place) [
              | inl here ↦
                  let one : q ≡ o = same_Some q o (sym there ∙ (ap (λ n. slice_get rows n) here ∙ at)) in
                  (place, p, at_set rows place p within, same ∙ (ap (λ (r : Origins). r.item) (sym one) ∙ is), (has j).1 (inl (subst (λ (r : Origins). Has r.set.items j) one bit)))
              | inr other ↦ (k, q, at_set_other rows place k p q other there, is, bit)
            ]
        | inr now ↦ (place, p, at_set rows place p within, same ∙ now.0, (has j).1 (inr now.1))
      ]),
    )

-- an item without origins is put last
pub stands_push : (rows : List Origins) (o : Origins) → o.set.items ≡ [] → (x : Item) (j : ℕ) → StandsIn (rows ++ o ∷ []) x j ↔ StandsIn rows x j
stands_push rows o none x j = (
  (λ h. elim (at_push_cases rows o h.0 h.1 h.2) [
    | inl before ↦ (h.0, h.1, before, h.3, h.4)
    | inr last ↦
        let bits : Has [] j = subst (λ (l : List ℕ). Has l j) (ap (λ (r : Origins). r.set.items) (sym last.1) ∙ none) h.4 in
        absurd (let zero = bit_at-zero (j % 64) in omega arith)
  ]),
  (λ h. (h.0, h.1, at_left rows (o ∷ []) h.0 h.1 h.2, h.3, h.4)),
)

-- the same, where it may have been there
pub stands_added : (old new : List Origins) → (new ≡ old) ⊎ ((o : Origins) × (new ≡ old ++ o ∷ []) × (o.set.items ≡ [])) → (x : Item) (j : ℕ) → StandsIn new x j ↔ StandsIn old x j
stands_added old new added x j = elim added [
  | inl same ↦ ((λ h. subst (λ (l : List Origins). StandsIn l x j) same h), (λ h. subst (λ (l : List Origins). StandsIn l x j) (sym same) h))
  | inr more ↦
      let step = stands_push old more.0 more.2 x j in
      ((λ h. step.0 (subst (λ (l : List Origins). StandsIn l x j) more.1 h)), (λ h. subst (λ (l : List Origins). StandsIn l x j) (sym more.1) (step.1 h)))
]

pub stood_added : (item given : Item) (From : ℕ → Type 0) (old mid new : List Origins) → ((x : Item) (j : ℕ) → StandsIn mid x j ↔ StandsIn old x j) → given ≡ item → Stood given From mid new → Stood item From old new
stood_added item given From old mid new same is stood x j = (
  (λ h. elim ((stood x j).0 h) [
    | inl before ↦ inl ((same x j).0 before)
    | inr now ↦ inr (sym is ∙ now.0, now.1)
  ]),
  (λ h. elim h [
    | inl before ↦ (stood x j).1 (inl ((same x j).1 before))
    | inr now ↦ (stood x j).1 (inr (is ∙ now.0, now.1))
  ]),
)

-- spans stay where more come behind them
pub spans_left : (old more new : List Span) (a j : ℕ) → new ≡ old ++ more → SpansIn old a j → SpansIn new a j
spans_left old more new a j grown h = (h.0, h.1, ap (λ (l : List Span). slice_get l h.0) grown ∙ at_left old more h.0 h.1 h.2, h.3, h.4)

pub ends_none : (left : ℕ) (cause : Option ℕ) (From : ℕ → Type 0) (old : List Span) → ((j : ℕ) → From j → ⊥) → Ends left cause From old old
ends_none left cause From old none = record {
  more = [];
  grown = sym (append-nil old);
  are = All-nil _;
  found = λ j h. absurd (none j h);
}

pub all_more : (P Q : Span → Type 0) (xs : List Span) → ((s : Span) → P s → Q s) → All P xs → All Q xs
all_more P Q xs more all = λ k d lt. more _ (all k d lt)

abbrev pub Are : ℕ → Option ℕ → (ℕ → Type 0) → Span → Type 0
Are left cause From s = (s.nonterminal ≡ left) × (s.cause ≡ cause) × From s.from

pub are_more : (left : ℕ) (cause : Option ℕ) (P Q : ℕ → Type 0) → ((j : ℕ) → P j → Q j) → (s : Span) → Are left cause P s → Are left cause Q s
are_more left cause P Q more s h = (h.0, h.1, more s.from h.2)

-- one more span
pub ends_push : (left : ℕ) (cause : Option ℕ) (P Q : ℕ → Type 0) (old mid new : List Span) (s : Span) → Ends left cause P old mid → new ≡ mid ++ s ∷ [] → s.nonterminal ≡ left → s.cause ≡ cause → Q s.from → ((j : ℕ) → P j → Q j) → ((j : ℕ) → Q j → P j ⊎ (j ≡ s.from)) → Ends left cause Q old new
ends_push left cause P Q old mid new s ends is nonterminal from_cause from more less = record {
  more = ends.more ++ s ∷ [];
  grown = is ∙ (ap (λ (l : List Span). l ++ s ∷ []) ends.grown ∙ append_assoc old ends.more (s ∷ []));
  are = All-push (Are left cause Q) ends.more s (all_more (Are left cause P) (Are left cause Q) ends.more (λ t h. are_more left cause P Q more t h) ends.are) (nonterminal, from_cause, from);
  found = λ j h. elim (less j h) [
    | inl before ↦ spans_left mid (s ∷ []) new left j is (ends.found j before)
    | inr now ↦ (length mid, s, ap (λ (l : List Span). slice_get l (length mid)) is ∙ at_end mid s (length mid) refl, nonterminal, sym now)
  ];
}

pub ends_same : (left : ℕ) (cause : Option ℕ) (P Q : ℕ → Type 0) (old new : List Span) → ((j : ℕ) → P j → Q j) → ((j : ℕ) → Q j → P j) → Ends left cause P old new → Ends left cause Q old new
ends_same left cause P Q old new more less ends = record {
  more = ends.more;
  grown = ends.grown;
  are = all_more (Are left cause P) (Are left cause Q) ends.more (λ t h. are_more left cause P Q more t h) ends.are;
  found = λ j h. ends.found j (less j h);
}

-- the numbers of the word whose bits are not left
abbrev pub Taken : Word → ℕ → ℕ → Type 0
Taken word bits j = InWord word j × (bit_at bits (j % 64) ≡ 0)

-- clearing a bit that is set makes the word smaller, and leaves the other bits
pub cleared : (word k : ℕ) → k < 64 → bit_at word k ≡ 1 → bit_and word (bit_not w64 (1 * 2 ^ k % 2 ^ 64)) < word
cleared word k within one =
    let left : ℕ = bit_and word (bit_not w64 (1 * 2 ^ k % 2 ^ 64)) in
    let gone : bit_at left k ≡ 0 = bit_at_clear_same w64 word k within in
    elim (cases_eq left word) [
      | inl same ↦ absurd (let both : bit_at left k ≡ bit_at word k = ap (λ x. bit_at x k) same in omega arith)
      | inr other ↦ omega (arith, and_le_l word (bit_not w64 (1 * 2 ^ k % 2 ^ 64)))
    ]

-- the bits after one is cleared
module _ (word : Word) (bits k : ℕ) (within : k < 64) (one : bit_at bits k ≡ 1) where
  pub taken_more : (j : ℕ) → Taken word bits j → Taken word (bit_and bits (bit_not w64 (1 * 2 ^ k % 2 ^ 64))) j
  taken_more j h = (
    h.0,
    elim (cases_eq (j % 64) k) [
      | inl same ↦ absurd (let clash : bit_at bits (j % 64) ≡ bit_at bits k = ap (λ n. bit_at bits n) same in let zero = h.1 in omega arith)
      | inr other ↦ bit_at_clear_other w64 bits k within (j % 64) (omega arith) other ∙ h.1
    ],
  )

  pub taken_less : (j : ℕ) → Taken word (bit_and bits (bit_not w64 (1 * 2 ^ k % 2 ^ 64))) j → Taken word bits j ⊎ (j ≡ word.at * 64 + k)
  taken_less j h = elim (cases_eq (j % 64) k) [
    | inl same ↦ inr (let at = h.0.0 in omega arith)
    | inr other ↦ inl (h.0, sym (bit_at_clear_other w64 bits k within (j % 64) (omega arith) other) ∙ h.1)
  ]

  pub taken_here : bit_at word.bits k ≡ 1 → Taken word (bit_and bits (bit_not w64 (1 * 2 ^ k % 2 ^ 64))) (word.at * 64 + k)
  taken_here set =
      let high : (word.at * 64 + k) / 64 ≡ word.at = omega arith in
      let low : k ≡ (word.at * 64 + k) % 64 = omega arith in
      ((sym high, subst (λ n. bit_at word.bits n ≡ 1) low set), subst (λ n. bit_at (bit_and bits (bit_not w64 (1 * 2 ^ k % 2 ^ 64))) n ≡ 0) low (bit_at_clear_same w64 bits k within))

  pub subset_less : ((i : ℕ) → i < 64 → bit_at bits i ≡ 1 → bit_at word.bits i ≡ 1) → (i : ℕ) → i < 64 → bit_at (bit_and bits (bit_not w64 (1 * 2 ^ k % 2 ^ 64))) i ≡ 1 → bit_at word.bits i ≡ 1
  subset_less subset i lt h = elim (cases_eq i k) [
    | inl same ↦ absurd (let zero = ap (λ n. bit_at (bit_and bits (bit_not w64 (1 * 2 ^ k % 2 ^ 64))) n) same ∙ bit_at_clear_same w64 bits k within in omega arith)
    | inr other ↦ subset i lt (sym (bit_at_clear_other w64 bits k within i lt other) ∙ h)
  ]
