-- Rules whose actions have kinds have kinds, and bytes have literals.
use Rattle.std.proofs.Common.{◌≡◌, ◌≢◌, ◌⊎◌, ℕ, zero, suc, ◌+◌, ◌-◌, ◌<◌, List, [], ◌∷◌, ◌++◌, length, get_or, refl, sym, ap, ◌∙◌, subst, inl, inr, arith}
use Rattle.std.specs.Prelude.{Some, slice_get}
use Rattle.std.specs.List.{AllByRecursion}
use Rattle.std.specs.Str.{bytes_eq}
use Rattle.std.proofs.lemmas.Bool.{cases_Bool, cases_eq, false≢true}
use Rattle.std.proofs.lemmas.Slice.Eq.{bytes_eq-Decides}
use Rattle.cs_pattern_parts.specs.declared.kind.Kind.{Kind}
use Rattle.cs_pattern_parts.specs.declared.kind.Kind.TheVariants.{Token, OwnByte, Skip, Foreign}
use Rattle.cs_yacc.specs.declared.reading.name.TokenName.{TokenName}
use Rattle.cs_yacc.specs.declared.reading.name.TokenName.TheVariants.{Word, Byte}
use Rattle.cs_yacc.specs.Reading.File as tokens
use Rattle.cs_yacc.specs.Reading.File.{IsNamed}
use Rattle.cs_lex.specs.declared.layout.parts.Rule.{Rule}
use Rattle.cs_lex.specs.Actions.Kinds.{ActionKind, bar, skip, word, literal, own_byte, foreign, IsKind}
use Rattle.cs_lex.specs.Reading.Kinds.{action_of, IsBarRule, Gives, HasKind, HaveKinds}
use Rattle.cs_lex.specs.Reading.Settled.{HasActionKind}
use Rattle.cs_lex.specs.Reading.Tokens.{GivesName, IsEntry, AreLiterals}
use Rattle.cs_lex.specs.Reading.Tokens as spec
use Rattle.cs_lex.proofs.OnReading.LastRules.{no_bar}

-- ---- the tokens that names give

same_words : (v w : List ℕ) → (v ≡ w) ⊎ (v ≡ w → ⊥)
same_words v w = elim (cases_Bool (bytes_eq v w)) [
  | inl e ↦ inl ((bytes_eq-Decides v w).0 e)
  | inr e ↦ inr (λ f. false≢true (sym e ∙ (bytes_eq-Decides v w).1 f))
]

same_name : (a b : TokenName) → (a ≡ b) ⊎ (a ≡ b → ⊥)
same_name (Word v) (Word w) = elim (same_words v w) [ inl e ↦ inl (ap Word e) | inr differs ↦ inr (λ f. differs cc) ]
same_name (Word v) (Byte c) = inr (λ f. absurd cc)
same_name (Byte b) (Word w) = inr (λ f. absurd cc)
same_name (Byte b) (Byte c) = elim (cases_eq b c) [ inl e ↦ inl (ap Byte e) | inr differs ↦ inr (λ f. differs cc) ]

abbrev IsAt : List TokenName → TokenName → ℕ → Type 0
IsAt names name place = slice_get names place ≡ Some name

place_of : (names : List TokenName) (name : TokenName) → ((place : ℕ) × IsAt names name place) ⊎ ((place : ℕ) → slice_get names place ≢ Some name)
place_of [] name = inr (λ place e. absurd cc)
place_of (n ∷ names) name = by_first (same_name n name) (place_of names name)
  where
    by_first : (n ≡ name) ⊎ (n ≡ name → ⊥) → ((place : ℕ) × IsAt names name place) ⊎ ((place : ℕ) → slice_get names place ≢ Some name)
        → ((place : ℕ) × IsAt (n ∷ names) name place) ⊎ ((place : ℕ) → slice_get (n ∷ names) place ≢ Some name)
    by_first (inl e) rest = inl (zero, ap Some e)
    by_first (inr differs) (inl h) = inl (suc h.0, h.1)
    by_first (inr differs) (inr none) = inr not_there
      where
        not_there : (place : ℕ) → slice_get (n ∷ names) place ≢ Some name
        not_there zero e = differs cc
        not_there (suc place) e = none place e

module _ (file : tokens.File) where
  token_at : (name : TokenName) (place : ℕ) → slice_get file.token_names place ≡ Some name → IsNamed file.token_names (place + 1) name
  token_at name place e =
      let same : place ≡ place + 1 - 1 = omega arith in
      (omega arith, subst (λ (k : ℕ). slice_get file.token_names k ≡ Some name) same e)

  name_given : (name : TokenName) → (k : Kind) × GivesName file name k
  name_given name = elim (place_of file.token_names name) [
    | inl h ↦ (Token (h.0 + 1), spec.GivesName.in_use (h.0 + 1) (token_at name h.0 h.1) refl)
    | inr none ↦ (Foreign, spec.GivesName.not_in_use none refl)
  ]

  entry_of : (byte : ℕ) → (entry : ℕ) × IsEntry file byte entry
  entry_of byte = elim (place_of file.token_names (Byte byte)) [
    | inl h ↦ (h.0 + 1, spec.IsEntry.in_use (token_at (Byte byte) h.0 h.1))
    | inr none ↦ (0, spec.IsEntry.not_in_use none refl)
  ]

  -- so many entries, from that of the byte on
  record Entries (from count : ℕ) (entries : List ℕ) : Type 0 where
    size : length entries ≡ count
    each : (i : ℕ) → i < count → IsEntry file (from + i) (get_or entries i 0)

  one_more : (from count entry : ℕ) (entries : List ℕ) → IsEntry file from entry → Entries (from + 1) count entries → Entries from (suc count) (entry ∷ entries)
  one_more from count entry entries is rest = record { size = (let s = rest.size in omega arith); each = each }
    where
      each : (i : ℕ) → i < suc count → IsEntry file (from + i) (get_or (entry ∷ entries) i 0)
      each zero lt = let same : from ≡ from + 0 = omega arith in subst (λ (b : ℕ). IsEntry file b entry) same is
      each (suc i) lt =
          let same : from + 1 + i ≡ from + suc i = omega arith in
          subst (λ (b : ℕ). IsEntry file b (get_or entries i 0)) same (rest.each i (omega (arith, lt)))

  entries_from : (count from : ℕ) → (entries : List ℕ) × Entries from count entries
  entries_from zero from = ([], record { size = refl; each = λ i lt. absurd (omega (arith, lt)) })
  entries_from (suc count) from =
      let entry = entry_of from in
      let rest = entries_from count (from + 1) in
      (entry.0 ∷ rest.0, one_more from count entry.0 rest.0 entry.1 rest.1)

  pub literals_of : (literals : List ℕ) × AreLiterals file literals
  literals_of =
      let all = entries_from 256 0 in
      let are = all.1 in
      (all.0, record { count = are.size; each = λ byte lt. (let same : 0 + byte ≡ byte = omega arith in subst (λ (b : ℕ). IsEntry file b (get_or all.0 byte 0)) same (are.each byte lt)) })

  -- ---- the kinds of rules

  gives_kind : (action : ActionKind) (behind : List Kind) → (action ≡ bar → (k : Kind) × (ks : List Kind) × (behind ≡ k ∷ ks)) → (k : Kind) × Gives file action behind k
  gives_kind bar behind some = let s = some refl in (s.0, (s.1, s.2))
  gives_kind skip behind some = (Skip, refl)
  gives_kind (word w) behind some = name_given (Word w)
  gives_kind (literal b) behind some = name_given (Byte b)
  gives_kind own_byte behind some = (OwnByte, refl)
  gives_kind foreign behind some = (Foreign, refl)

  module _ (bytes : List ℕ) where
    rule_kind : (r : Rule) (behind : List Kind) → HasActionKind bytes r → (IsBarRule bytes r → (k : Kind) × (ks : List Kind) × (behind ≡ k ∷ ks)) → (k : Kind) × HasKind file bytes r behind k
    rule_kind r behind has some =
        let given = gives_kind has.0 behind (λ same. some (subst (IsKind (action_of bytes r)) same has.1)) in
        (given.0, record { action = has.0; is_kind = has.1; gives = given.1 })

    -- where the last hasn't the action `|`
    pub kinds_of : (before : List Rule) (r : Rule) → AllByRecursion (HasActionKind bytes) (before ++ r ∷ []) → (IsBarRule bytes r → ⊥)
        → (k : Kind) × (ks : List Kind) × HaveKinds file bytes (before ++ r ∷ []) (k ∷ ks)
    kinds_of [] r have ends = let k = rule_kind r [] have.0 (λ b. absurd (ends b)) in (k.0, [], (k.1, refl))
    kinds_of (q ∷ before) r have ends =
        let behind = kinds_of before r have.1 ends in
        let k = rule_kind q (behind.0 ∷ behind.1) have.0 (λ b. (behind.0, behind.1, refl)) in
        (k.0, behind.0 ∷ behind.1, (k.1, behind.2))

-- ---- the action of the last rule

pub bar_or_not : (bytes : List ℕ) (r : Rule) → HasActionKind bytes r → IsBarRule bytes r ⊎ (IsBarRule bytes r → ⊥)
bar_or_not bytes r (bar, is) = inl is
bar_or_not bytes r (skip, is) = inr (no_bar (action_of bytes r) skip is (λ e. absurd cc))
bar_or_not bytes r (word w, is) = inr (no_bar (action_of bytes r) (word w) is (λ e. absurd cc))
bar_or_not bytes r (literal b, is) = inr (no_bar (action_of bytes r) (literal b) is (λ e. absurd cc))
bar_or_not bytes r (own_byte, is) = inr (no_bar (action_of bytes r) own_byte is (λ e. absurd cc))
bar_or_not bytes r (foreign, is) = inr (no_bar (action_of bytes r) foreign is (λ e. absurd cc))
