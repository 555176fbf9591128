-- Spelled bytes that are read one by one.
use Rattle.std.proofs.Common.{◌≡◌, ℕ, ◌+◌, ◌<◌, ◌≤◌, List, [], ◌∷◌, ◌++◌, length, refl, sym, ap, ◌∙◌, subst, inl, inr, arith, append_assoc, append-nil, take, drop}
use Rattle.std.proofs.lemmas.List.{take-append-drop, drop-drop}
use Rattle.cs_words.specs.Values.{Spells, SpellsByte, IsSeparator}

-- no byte is spelled in front of nothing
no_front : (text behind : List ℕ) (byte : ℕ) → text ++ behind ≡ [] → SpellsByte text byte → ⊥
no_front text behind byte e (inl x) = let f : byte ∷ behind ≡ [] = ap (λ v. v ++ behind) (sym x.0) ∙ e in cc
no_front text behind byte e (inr x) = let f : 92 ∷ 120 ∷ x.high ∷ x.low ∷ behind ≡ [] = ap (λ v. v ++ behind) (sym x.text) ∙ e in cc

-- two spellings in front of one text are one
one_front : (s t r u : List ℕ) (b c : ℕ) → s ++ r ≡ t ++ u → SpellsByte s b → SpellsByte t c → (b ≡ c) × (r ≡ u)
one_front s t r u b c same (inl x) (inl y) =
    let e : b ∷ r ≡ c ∷ u = ap (λ v. v ++ r) (sym x.0) ∙ same ∙ ap (λ v. v ++ u) y.0 in (cc, cc)
one_front s t r u b c same (inl x) (inr y) =
    let e : b ∷ r ≡ 92 ∷ 120 ∷ y.high ∷ y.low ∷ u = ap (λ v. v ++ r) (sym x.0) ∙ same ∙ ap (λ v. v ++ u) y.text in
    let is : b ≡ 92 = cc in absurd (x.1 is)
one_front s t r u b c same (inr x) (inl y) =
    let e : c ∷ u ≡ 92 ∷ 120 ∷ x.high ∷ x.low ∷ r = ap (λ v. v ++ u) (sym y.0) ∙ sym same ∙ ap (λ v. v ++ r) x.text in
    let is : c ≡ 92 = cc in absurd (y.1 is)
one_front s t r u b c same (inr x) (inr y) =
    let e : 92 ∷ 120 ∷ x.high ∷ x.low ∷ r ≡ 92 ∷ 120 ∷ y.high ∷ y.low ∷ u = ap (λ v. v ++ r) (sym x.text) ∙ same ∙ ap (λ v. v ++ u) y.text in
    let high : x.high ≡ y.high = cc in
    let low : x.low ≡ y.low = cc in
    let bx = x.byte in
    let by = y.byte in (cc, cc)

-- The bytes so far are spelled in front of the value, and the rest is what is behind their spellings.
pub record Reads (value done rest : List ℕ) : Type 0 where
  pub onto : (bytes : List ℕ) → Spells rest bytes → Spells value (done ++ bytes)
  pub off : (bytes : List ℕ) → Spells value bytes → (tail : List ℕ) × (bytes ≡ done ++ tail) × Spells rest tail

module _ (value done rest : List ℕ) (reads : Reads value done rest) where
  pub reads_more : (text behind : List ℕ) (byte : ℕ) → rest ≡ text ++ behind → SpellsByte text byte → Reads value (done ++ byte ∷ []) behind
  reads_more text behind byte split spelled = record {
    onto = λ bytes is. subst (λ xs. Spells value xs) (sym (append_assoc done (byte ∷ []) bytes)) (reads.onto (byte ∷ bytes) (text, behind, split, spelled, is));
    off = λ bytes is. let o = reads.off bytes is in one_more bytes o.0 o.1 o.2;
  }
    where
      one_more : (bytes tail : List ℕ) → bytes ≡ done ++ tail → Spells rest tail → (more : List ℕ) × (bytes ≡ (done ++ byte ∷ []) ++ more) × Spells behind more
      one_more bytes [] same is = absurd (no_front text behind byte (sym split ∙ is) spelled)
      one_more bytes (c ∷ tail) same (s, r, e, sp, is) =
          let one = one_front text s behind r byte c (sym split ∙ e) spelled sp in
          (tail, same ∙ ap (λ x. done ++ x ∷ tail) (sym one.0) ∙ sym (append_assoc done (byte ∷ []) tail), subst (λ v. Spells v tail) (sym one.1) is)

  pub reads_stuck : (bytes : List ℕ) → 0 < length rest → ((text behind : List ℕ) (byte : ℕ) → rest ≡ text ++ behind → SpellsByte text byte → ⊥) → Spells value bytes → ⊥
  reads_stuck bytes some none is = let o = reads.off bytes is in go o.0 o.2
    where
      go : (tail : List ℕ) → Spells rest tail → ⊥
      go [] empty = omega (arith, ap length empty)
      go (c ∷ tail) (s, r, e, sp, more) = none s r c e sp

  pub reads_all : rest ≡ [] → length done ≤ 64 → IsSeparator value done
  reads_all empty few = (subst (λ xs. Spells value xs) (append-nil done) (reads.onto [] empty), few)

-- the spelling in front of the rest
pub reads_at : (value done new : List ℕ) (at len byte : ℕ) → Reads value done (drop at value) → SpellsByte (take len (drop at value)) byte → new ≡ done ++ byte ∷ [] → Reads value new (drop (at + len) value)
reads_at value done new at len byte reads spelled is =
    let split : drop at value ≡ take len (drop at value) ++ drop len (drop at value) = sym (take-append-drop len (drop at value)) in
    let more = reads_more value done (drop at value) reads (take len (drop at value)) (drop len (drop at value)) byte split spelled in
    subst (λ d. Reads value d (drop (at + len) value)) (sym is) (subst (λ r. Reads value (done ++ byte ∷ []) r) (drop-drop len at value) more)

-- a value spells one list of bytes
pub one_spelling : (xs ys value : List ℕ) → Spells value xs → Spells value ys → xs ≡ ys
one_spelling [] [] value one other = refl
one_spelling [] (y ∷ ys) value one (text, rest, split, spelled, more) = absurd (no_front text rest y (sym split ∙ one) spelled)
one_spelling (x ∷ xs) [] value (text, rest, split, spelled, more) other = absurd (no_front text rest x (sym split ∙ other) spelled)
one_spelling (x ∷ xs) (y ∷ ys) value (text, rest, split, spelled, more) (t, r, s, sp, m) =
    let one = one_front text t rest r x y (sym split ∙ s) spelled sp in
    ap (λ b. b ∷ xs) one.0 ∙ ap (λ bs. y ∷ bs) (one_spelling xs ys r (subst (λ v. Spells v xs) one.1 more) m)
