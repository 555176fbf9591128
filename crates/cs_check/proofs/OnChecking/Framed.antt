-- The marks at the places of framed tokens, and their pairs.
use Rattle.std.proofs.Common.{◌≡◌, ℕ, zero, suc, ◌+◌, ◌<◌, ◌≤◌, List, [], ◌∷◌, ◌++◌, Some, None, map, length, get_or, refl, sym, ap, ◌∙◌, arith}
use Rattle.std.specs.Prelude.{slice_get}
use Rattle.std.proofs.lemmas.Option.{slice_get-get_or, slice_get_past, slice_get_within}
use Rattle.std.proofs.lemmas.List.{get_or_append_left, get_or-map, get_or_at, length-map, length-append}
use Rattle.cs_grammar.specs.declared.symbol.Mark.{Mark}
use Rattle.cs_grammar.specs.declared.symbol.Mark.TheVariants.{Begin, Token, End}
use Rattle.cs_grammar.specs.Sentence.{framed, IsFollowed}

behind : List ℕ → List Mark
behind tokens = map Token tokens ++ End ∷ []

behind_length : (tokens : List ℕ) → length (behind tokens) ≡ length tokens + 1
unfolding behind
behind_length tokens =
    let whole = length-append (map Token tokens) (End ∷ []) in
    let inner = length-map tokens Token in
    omega arith

one_on : (tokens : List ℕ) (n k : ℕ) → n ≡ k + 1 → slice_get (framed tokens) n ≡ slice_get (behind tokens) k
unfolding behind
one_on tokens n k is = let e : n ≡ suc k = omega arith in ap (slice_get (framed tokens)) e

pub framed_token : (tokens : List ℕ) (n k : ℕ) → n ≡ k + 1 → k < length tokens → Some (Token (get_or tokens k 0)) ≡ slice_get (framed tokens) n
unfolding behind
framed_token tokens n k is low =
    let long = behind_length tokens in
    let inner : k < length (map Token tokens) = let e = length-map tokens Token in omega arith in
    ap Some (sym (get_or_append_left (map Token tokens) (End ∷ []) End k inner ∙ get_or-map Token tokens k 0 End low))
    ∙ sym (slice_get-get_or (behind tokens) k End (omega arith))
    ∙ sym (one_on tokens n k is)

pub framed_end : (tokens : List ℕ) (n : ℕ) → n ≡ length tokens + 1 → Some End ≡ slice_get (framed tokens) n
unfolding behind
framed_end tokens n is =
    let long = behind_length tokens in
    ap Some (sym (get_or_at (map Token tokens) End [] Begin (length tokens) (length-map tokens Token)))
    ∙ sym (slice_get-get_or (behind tokens) (length tokens) Begin (omega arith))
    ∙ sym (one_on tokens n (length tokens) is)

pub framed_past : (tokens : List ℕ) (n : ℕ) → length tokens + 2 ≤ n → None ≡ slice_get (framed tokens) n
unfolding behind
framed_past tokens n past =
    let long = behind_length tokens in
    let whole : length (framed tokens) ≤ n = omega arith in
    sym (slice_get_past (framed tokens) n whole)

-- ---- a pair at a place

pub followed_at : {A : Type 0} (list : List A) (at : ℕ) (a b : A) → slice_get list at ≡ Some a → slice_get list (suc at) ≡ Some b → IsFollowed a b list
followed_at [] at a b h k = absurd cc
followed_at (x ∷ []) zero a b h k = absurd cc
followed_at {A} (x ∷ (y ∷ list)) zero a b h k =
    let first : x ≡ a = cc in
    let second : y ≡ b = cc in
    ([], list, ap (λ (z : A). z ∷ y ∷ list) first ∙ ap (λ (z : A). a ∷ z ∷ list) second)
followed_at {A} (x ∷ list) (suc at) a b h k =
    let inner = followed_at list at a b h k in
    (x ∷ inner.0, inner.1, ap (λ (s : List A). x ∷ s) inner.2)

module _ {A : Type 0} (a b : A) (ys : List A) where
  first_of : (xs : List A) → slice_get (xs ++ a ∷ b ∷ ys) (length xs) ≡ Some a
  first_of [] = refl
  first_of (x ∷ xs) = first_of xs

  second_of : (xs : List A) → slice_get (xs ++ a ∷ b ∷ ys) (suc (length xs)) ≡ Some b
  second_of [] = refl
  second_of (x ∷ xs) = second_of xs

-- where no pair stands at a place of framed tokens there is none
pub no_pair : (tokens : List ℕ) (a b : Mark) → ((k : ℕ) → k < length tokens + 1 → slice_get (framed tokens) k ≡ Some a → slice_get (framed tokens) (k + 1) ≡ Some b → ⊥) → IsFollowed a b (framed tokens) → ⊥
unfolding behind
no_pair tokens a b never h =
    let place = length h.0 in
    let one : place + 1 ≡ suc place = omega arith in
    let first : slice_get (framed tokens) place ≡ Some a = ap (λ (l : List Mark). slice_get l place) h.2 ∙ first_of a b h.1 h.0 in
    let second : slice_get (framed tokens) (place + 1) ≡ Some b =
    ap (λ (i : ℕ). slice_get (framed tokens) i) one ∙ ap (λ (l : List Mark). slice_get l (suc place)) h.2 ∙ second_of a b h.1 h.0 in
    let within = slice_get_within (framed tokens) (place + 1) b second in
    let long = behind_length tokens in
    never place (omega arith) first second
