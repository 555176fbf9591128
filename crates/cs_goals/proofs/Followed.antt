-- Which marks follow one another in a framed list.
use Rattle.std.proofs.Common.{◌≡◌, ℕ, ◌+◌, ◌<◌, List, [], ◌∷◌, ◌++◌, map, take, drop, length, get_or, refl, sym, ap, ◌∙◌, subst, ⊎_elim, inl, inr, ◌⊎◌, append_assoc}
use Rattle.std.proofs.lemmas.List.{same_from_push, take_more, take-append-drop, drop_more, map-append, map_push}
use Rattle.cs_grammar.specs.declared.symbol.Mark.{Mark}
use Rattle.cs_grammar.specs.declared.symbol.Mark.TheVariants.{Begin, Token, End}
use Rattle.cs_grammar.specs.Sentence.{framed, IsFollowed}

module _ {A : Type 0} where
  -- a list is empty or has a last element
  data Back (l : List A) : Type 0 where
    Bare : l ≡ [] → Back l
    Ended : (init : List A) → (last : A) → l ≡ init ++ last ∷ [] → Back l

  back : (l : List A) → Back l
  back [] = Bare refl
  back (x ∷ l) = elim (back l) [
    | Bare e ↦ Ended [] x (ap (λ (s : List A). x ∷ s) e)
    | Ended init last e ↦ Ended (x ∷ init) last (ap (λ (s : List A). x ∷ s) e)
  ]

  -- one more element at the end is followed by none, and follows the last one
  pub followed_push : (before : List A) (last m a b : A) → IsFollowed a b ((before ++ last ∷ []) ++ m ∷ []) → IsFollowed a b (before ++ last ∷ []) ⊎ ((last ≡ a) × (m ≡ b))
  followed_push before last m a b h =
      let xs = h.0 in
      let e : (before ++ last ∷ []) ++ m ∷ [] ≡ xs ++ a ∷ b ∷ h.1 = h.2 in
      elim (back h.1) [
        | Bare none ↦
            (let f : (before ++ last ∷ []) ++ m ∷ [] ≡ (xs ++ a ∷ []) ++ b ∷ [] =
            e ∙ ap (λ (s : List A). xs ++ a ∷ b ∷ s) none ∙ sym (append_assoc xs (a ∷ []) (b ∷ [])) in
            let outer = same_from_push (before ++ last ∷ []) (xs ++ a ∷ []) m b f in
            inr ((same_from_push before xs last a outer.0).1, outer.1))
        | Ended init y ends ↦
            (let f : (before ++ last ∷ []) ++ m ∷ [] ≡ (xs ++ a ∷ b ∷ init) ++ y ∷ [] =
            e ∙ ap (λ (s : List A). xs ++ a ∷ b ∷ s) ends ∙ sym (append_assoc xs (a ∷ b ∷ init) (y ∷ [])) in
            inl (xs, init, (same_from_push (before ++ last ∷ []) (xs ++ a ∷ b ∷ init) m y f).0))
      ]

-- the begin mark and these tokens end with this mark, and have no such pair
pub record Looked (a b : Mark) (tokens : List ℕ) (last : Mark) : Type 0 where
  pub before : List Mark
  pub ends : Begin ∷ map Token tokens ≡ before ++ last ∷ []
  pub never : IsFollowed a b (Begin ∷ map Token tokens) → ⊥

module _ (a b : Mark) where
  pub looked_none : Looked a b [] Begin
  looked_none = record {
    before = [];
    ends = refl;
    never = λ h. elim h.0 as (λ xs. Begin ∷ [] ≡ xs ++ a ∷ b ∷ h.1 → ⊥) [ [] ↦ (λ e. cc) | x ∷ [] ↦ (λ e. cc) | x ∷ (y ∷ xs) ↦ (λ e. cc) ] h.2;
  }

  pub looked_more : (tokens : List ℕ) (i d t : ℕ) (last : Mark) → i < length tokens → t ≡ get_or tokens i d → Looked a b (take i tokens) last → ((last ≡ a) × (Token t ≡ b) → ⊥) → Looked a b (take (i + 1) tokens) (Token t)
  looked_more tokens i d t last within is h no_pair =
      let grown : Begin ∷ map Token (take (i + 1) tokens) ≡ (h.before ++ last ∷ []) ++ Token t ∷ [] =
      ap (λ (l : List ℕ). Begin ∷ map Token l) (take_more tokens i d within ∙ ap (λ n. take i tokens ++ n ∷ []) (sym is))
      ∙ ap (λ (l : List Mark). Begin ∷ l) (map_push Token (take i tokens) t)
      ∙ ap (λ (l : List Mark). l ++ Token t ∷ []) h.ends in
      record {
        before = h.before ++ last ∷ [];
        ends = grown;
        never = λ f. ⊎_elim (λ early. h.never (subst (IsFollowed a b) (sym h.ends) early)) no_pair (followed_push h.before last (Token t) a b (subst (IsFollowed a b) grown f));
      }

  pub found_pair : (tokens : List ℕ) (i d t : ℕ) (last : Mark) → i < length tokens → t ≡ get_or tokens i d → Looked a b (take i tokens) last → last ≡ a → Token t ≡ b → IsFollowed a b (framed tokens)
  found_pair tokens i d t last within is h is_a is_b =
      let split : tokens ≡ take i tokens ++ t ∷ drop (i + 1) tokens =
      sym (take-append-drop i tokens) ∙ ap (λ (l : List ℕ). take i tokens ++ l) (drop_more tokens i d within ∙ ap (λ n. n ∷ drop (i + 1) tokens) (sym is)) in
      let rest = map Token (drop (i + 1) tokens) ++ End ∷ [] in (
        h.before,
        rest,
        ap framed split
            ∙ ap (λ (l : List Mark). Begin ∷ l ++ End ∷ []) (map-append Token (take i tokens) (t ∷ drop (i + 1) tokens))
            ∙ append_assoc (Begin ∷ map Token (take i tokens)) (Token t ∷ map Token (drop (i + 1) tokens)) (End ∷ [])
            ∙ ap (λ (l : List Mark). l ++ Token t ∷ rest) h.ends
            ∙ append_assoc h.before (last ∷ []) (Token t ∷ rest)
            ∙ ap (λ (m : Mark). h.before ++ m ∷ Token t ∷ rest) is_a
            ∙ ap (λ (m : Mark). h.before ++ a ∷ m ∷ rest) is_b,
      )

  -- at the end
  module _ (tokens : List ℕ) (last : Mark) (h : Looked a b tokens last) where
    whole : framed tokens ≡ (h.before ++ last ∷ []) ++ End ∷ []
    whole = ap (λ (l : List Mark). l ++ End ∷ []) h.ends

    pub last_pair : last ≡ a → End ≡ b → IsFollowed a b (framed tokens)
    last_pair is_a is_b = (
      h.before,
      [],
      whole ∙ append_assoc h.before (last ∷ []) (End ∷ [])
          ∙ ap (λ (m : Mark). h.before ++ m ∷ End ∷ []) is_a
          ∙ ap (λ (m : Mark). h.before ++ a ∷ m ∷ []) is_b,
    )

    pub last_of_pairs : IsFollowed a b (framed tokens) → (last ≡ a) × (End ≡ b)
    last_of_pairs f =
        ⊎_elim (λ early. absurd (h.never (subst (IsFollowed a b) (sym h.ends) early))) (λ here. here)
        (followed_push h.before last End a b (subst (IsFollowed a b) whole f))
