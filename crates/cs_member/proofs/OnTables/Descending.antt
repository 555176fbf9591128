-- The nonterminals with which rules may begin.
use Rattle.std.proofs.Common.{◌≡◌, ℕ, ◌+◌, ◌%◌, ◌<◌, ◌≤◌, ◌⊎◌, inl, inr, List, [], ◌∷◌, ◌++◌, Bool, true, Some, length, refl, sym, ◌∙◌, subst, arith}
use Rattle.std.specs.Prelude.{◌↔◌, slice_get}
use Rattle.std.specs.Global.{Vec}
use Rattle.std.proofs.lemmas.Bool.{cases_eq}
use Rattle.std.proofs.lemmas.Nat.Bits.{bit_at-zero}
use Rattle.std.proofs.lemmas.Option.{slice_get_within}
use Rattle.std.proofs.lemmas.List.{length-append}
use Rattle.smallvec.specs.SmallVec.{SmallVec}
use Rattle.cs_member.specs.declared.tables.word.Word.{Word}
use Rattle.cs_member.specs.Tables.Sets.{Has, InWord, InWords}
use Rattle.cs_member.specs.Tables.Expecting.{IsMarked, IsDescent, IsDescended, AreDescents}
use Rattle.cs_member.proofs.OnTables.Places.{at_push_cases}

-- one number more whose mark is set
pub marked_more : (marks : List Bool) (at n : ℕ) (old new : List ℕ) (word : Word) → slice_get marks at ≡ Some true → (InWord word n ↔ (n ≡ at)) → (Has new n ↔ (Has old n ⊎ InWord word n)) → (Has old n ↔ ((n < at) × IsMarked marks n)) → Has new n ↔ ((n < at + 1) × IsMarked marks n)
marked_more marks at n old new word marked one is before = (
  (λ h. elim (is.0 h) [
    | inl was ↦ (let b = before.0 was in (let lt = b.0 in omega arith, b.1))
    | inr now ↦ (let same = one.0 now in (omega arith, subst (λ k. IsMarked marks k) (sym same) marked))
  ]),
  (λ h. elim (cases_eq n at) [
    | inl same ↦ is.1 (inr (one.1 same))
    | inr other ↦ is.1 (inl (before.1 ((let lt = h.0 in omega arith), h.1)))
  ]),
)

-- one number more whose mark isn't set
pub marked_less : (marks : List Bool) (at n : ℕ) (old : List ℕ) → (IsMarked marks at → ⊥) → (Has old n ↔ ((n < at) × IsMarked marks n)) → Has old n ↔ ((n < at + 1) × IsMarked marks n)
marked_less marks at n old clear before = (
  (λ h. let b = before.0 h in (let lt = b.0 in omega arith, b.1)),
  (λ h. elim (cases_eq n at) [
    | inl same ↦ absurd (clear (subst (λ k. IsMarked marks k) same h.1))
    | inr other ↦ before.1 ((let lt = h.0 in omega arith), h.1)
  ]),
)

pub marked_none : (marks : List Bool) (n : ℕ) → Has [] n ↔ ((n < 0) × IsMarked marks n)
marked_none marks n = (
  (λ h. absurd (let zero = bit_at-zero (n % 64) in omega arith)),
  (λ h. absurd (let lt = h.0 in omega arith)),
)

pub marked_all : (marks : List Bool) (at n : ℕ) (set : List ℕ) → length marks ≤ at → (Has set n ↔ ((n < at) × IsMarked marks n)) → Has set n ↔ IsMarked marks n
marked_all marks at n set whole is = (
  (λ h. (is.0 h).1),
  (λ h. let lt = slice_get_within marks n true h in is.1 (omega arith, h)),
)

-- the words of what is marked
pub descent : (corners : List (Vec ℕ)) (a : ℕ) (marks : List Bool) (words : List Word) → ((n : ℕ) → InWords words n ↔ IsMarked marks n) → IsMarked marks a → IsDescended corners (IsMarked marks) → IsDescent corners a words
descent corners a marks words is marked closed = record {
  itself = (is a).1 marked;
  closed = λ b c list here at has. (is c).1 (closed b c list ((is b).0 here) at has);
}

pub descents_push : (many : ℕ) (corners : List (Vec ℕ)) (descents : List (SmallVec Word)) (words : SmallVec Word) → AreDescents many corners descents → IsDescent corners many words.items → AreDescents (many + 1) corners (descents ++ words ∷ [])
descents_push many corners descents words before one = record {
  size = (let long = length-append descents (words ∷ []) in let was = before.size in omega arith);
  each = λ a list at. elim (at_push_cases descents words a list at) [
    | inl was ↦ before.each a list was
    | inr last ↦
        let same : a ≡ many = last.0 ∙ before.size in
        subst (λ n. IsDescent corners n list.items) (sym same) (subst (λ (v : SmallVec Word). IsDescent corners many v.items) last.1 one)
  ];
}

pub descents_none : (corners : List (Vec ℕ)) → AreDescents 0 corners []
descents_none corners = record { size = refl; each = λ a list at. absurd (let lt = slice_get_within [] a list at in omega arith) }

-- nothing is descended from nothing
pub descended_none : (corners : List (Vec ℕ)) → IsDescended corners (Has [])
descended_none corners = λ a b list here at has. absurd (let zero = bit_at-zero (a % 64) in omega arith)

-- a descent is expected too
pub descended_with : (corners : List (Vec ℕ)) (a : ℕ) (words : List Word) (old new : List ℕ) → IsDescent corners a words → ((n : ℕ) → Has new n ↔ (Has old n ⊎ InWords words n)) → IsDescended corners (Has old) → IsDescended corners (Has new)
descended_with corners a words old new descent is before = λ b c list here at has.
    elim ((is b).0 here) [
      | inl was ↦ (is c).1 (inl (before b c list was at has))
      | inr now ↦ (is c).1 (inr (descent.closed b c list now at has))
    ]
