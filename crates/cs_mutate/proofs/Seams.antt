-- The pairs that an edit touches.
use Rattle.std.proofs.Common.{◌≡◌, ℕ, zero, suc, ◌+◌, ◌-◌, ◌<◌, ◌≤◌, List, [], ◌∷◌, ◌++◌, map, take, drop, length, get_or, Some, refl, sym, ap, ◌∙◌, subst, ⊎_elim, ◌⊎◌, inl, inr, add-one, append_assoc, length-append, arith, ◌↔◌}
use Rattle.std.specs.Prelude.{slice_get}
use Rattle.std.specs.List.{All}
use Rattle.std.proofs.lemmas.Bool.{cases_lt}
use Rattle.std.proofs.lemmas.Option.{slice_get_within}
use Rattle.std.proofs.lemmas.List.{length-take-le, map-append, take-append-drop}
use Rattle.cs_grammar.specs.declared.symbol.Mark.{Mark}
use Rattle.cs_grammar.specs.declared.symbol.Mark.TheVariants.{Begin, Token, End}
use Rattle.cs_grammar.specs.Grammar.{PlainGrammar, IsNumberOf}
use Rattle.cs_grammar.specs.Sentence.{framed}
use Rattle.cs_goals.specs.Goal.{IsLeft, IsRight}
use Rattle.cs_pairs.specs.Pairs.Pairs.{IsAdjacent}
use Rattle.cs_mutate.specs.Edit.{patched}
use Rattle.cs_mutate.specs.Poison.{IsPair, HasNoPoison, IsFirstPoisoned, IsPoisonedAt, between}
use Rattle.cs_mutate.specs.Kept.{IsOnlyAt}
use Rattle.cs_mutate.specs.Keeping.{IsSoundBehind}
use Rattle.cs_mutate.proofs.Marks.{many, token_at, last_at}

module _ {A : Type 0} where
  get_left : (l r : List A) (k : ℕ) → k < length l → slice_get (l ++ r) k ≡ slice_get l k
  get_left [] r k within = absurd (omega arith)
  get_left (x ∷ l) r zero within = refl
  get_left (x ∷ l) r (suc k) within = get_left l r k (omega arith)

  get_right : (l r : List A) (k j : ℕ) → k ≡ length l + j → slice_get (l ++ r) k ≡ slice_get r j
  get_right [] r k j is = let at : k ≡ j = omega arith in ap (slice_get r) at
  get_right (x ∷ l) r zero j is = absurd (omega arith)
  get_right (x ∷ l) r (suc k) j is = get_right l r k j (omega arith)

  take_to : (l : List A) (i : ℕ) (x : A) → slice_get l i ≡ Some x → take (suc i) l ≡ take i l ++ x ∷ []
  take_to [] i x is = absurd cc
  take_to (y ∷ l) zero x is = let same : y ≡ x = cc in ap (λ z. z ∷ []) same
  take_to (y ∷ l) (suc i) x is = ap (λ (s : List A). y ∷ s) (take_to l i x is)

  drop_from : (l : List A) (i : ℕ) (x : A) → slice_get l i ≡ Some x → drop i l ≡ x ∷ drop (suc i) l
  drop_from [] i x is = absurd cc
  drop_from (y ∷ l) zero x is = let same : y ≡ x = cc in ap (λ z. z ∷ l) same
  drop_from (y ∷ l) (suc i) x is = drop_from l i x is

-- pairs of a part of a list
module _ (l r : List Mark) where
  pair_left : (k : ℕ) (a b : Mark) → IsPair l k a b → IsPair (l ++ r) k a b
  pair_left k a b p =
      let within = slice_get_within l (k + 1) b p.right in
      record { left = get_left l r k (omega arith) ∙ p.left; right = get_left l r (k + 1) within ∙ p.right }

  left_pair : (k : ℕ) (a b : Mark) → k + 1 < length l → IsPair (l ++ r) k a b → IsPair l k a b
  left_pair k a b within p =
      record { left = sym (get_left l r k (omega arith)) ∙ p.left; right = sym (get_left l r (k + 1) within) ∙ p.right }

  pub pair_right : (k j : ℕ) (a b : Mark) → k ≡ length l + j → IsPair r j a b → IsPair (l ++ r) k a b
  pair_right k j a b is p =
      record { left = get_right l r k j is ∙ p.left; right = get_right l r (k + 1) (j + 1) (omega arith) ∙ p.right }

  pub right_pair : (k j : ℕ) (a b : Mark) → k ≡ length l + j → IsPair (l ++ r) k a b → IsPair r j a b
  right_pair k j a b is p =
      record { left = sym (get_right l r k j is) ∙ p.left; right = sym (get_right l r (k + 1) (j + 1) (omega arith)) ∙ p.right }

-- what stands around the tokens that an edit puts in
pub record Around (w : List ℕ) (i gone : ℕ) (left right : Mark) : Type 0 where
  pub front : List Mark
  pub back : List Mark
  pub begin : Begin ∷ map Token (take i w) ≡ front ++ left ∷ []
  pub long : length front ≡ i
  pub end : map Token (drop (i + gone) w) ++ End ∷ [] ≡ right ∷ back

heads : (w : List ℕ) (i : ℕ) → i ≤ length w → map Token (take i w) ≡ take i (map Token w ++ End ∷ [])
heads w zero within = refl
heads [] (suc i) within = absurd (omega arith)
heads (x ∷ w) (suc i) within = ap (λ (l : List Mark). Token x ∷ l) (heads w i (omega arith))

tails : (w : List ℕ) (j : ℕ) → j ≤ length w → map Token (drop j w) ++ End ∷ [] ≡ drop j (map Token w ++ End ∷ [])
tails w zero within = refl
tails [] (suc j) within = absurd (omega arith)
tails (x ∷ w) (suc j) within = tails w j (omega arith)

pub around : (w : List ℕ) (i gone : ℕ) (left right : Mark) → i + gone ≤ length w → slice_get (framed w) i ≡ Some left → slice_get (framed w) (i + gone + 1) ≡ Some right → Around w i gone left right
around w i gone left right within is_left is_right =
    let long = many End w in
    record {
      front = take i (framed w);
      back = drop (suc (i + gone)) (map Token w ++ End ∷ []);
      begin = ap (λ (l : List Mark). Begin ∷ l) (heads w i (omega arith)) ∙ take_to (framed w) i left is_left;
      long = length-take-le i (framed w) (omega arith);
      end = tails w (i + gone) within ∙ drop_from (map Token w ++ End ∷ []) (i + gone) right (ap (slice_get (framed w)) (sym (add-one (i + gone))) ∙ is_right);
    }

module _ (w : List ℕ) (i gone : ℕ) (left right : Mark) (h : Around w i gone left right) where
  -- the framed list with other tokens in the middle
  framed_patched : (put : List ℕ) → framed (patched w i put gone) ≡ h.front ++ (left ∷ map Token put) ++ (right ∷ h.back)
  framed_patched put =
      ap (λ (l : List Mark). Begin ∷ l ++ End ∷ []) (map-append Token (take i w ++ put) (drop (i + gone) w))
      ∙ ap (λ (l : List Mark). Begin ∷ (l ++ map Token (drop (i + gone) w)) ++ End ∷ []) (map-append Token (take i w) put)
      ∙ append_assoc ((Begin ∷ map Token (take i w)) ++ map Token put) (map Token (drop (i + gone) w)) (End ∷ [])
      ∙ ap (λ (l : List Mark). (Begin ∷ map Token (take i w)) ++ map Token put ++ l) h.end
      ∙ ap (λ (l : List Mark). l ++ map Token put ++ (right ∷ h.back)) h.begin
      ∙ ap (λ (l : List Mark). l ++ (right ∷ h.back)) (append_assoc h.front (left ∷ []) (map Token put))

  -- the seam alone
  seam : (put : List ℕ) → h.front ++ (left ∷ map Token put) ++ (right ∷ h.back) ≡ h.front ++ between left put right ++ h.back
  seam put =
      sym (append_assoc (h.front ++ (left ∷ map Token put)) (right ∷ []) h.back)
      ∙ ap (λ (l : List Mark). l ++ h.back) (append_assoc h.front (left ∷ map Token put) (right ∷ []))

  whole : w ≡ patched w i (take gone (drop i w)) gone
  whole =
      sym (take-append-drop i w)
      ∙ ap (λ (l : List ℕ). take i w ++ l) (sym (take-append-drop gone (drop i w)))
      ∙ ap (λ (l : List ℕ). take i w ++ (take gone (drop i w) ++ l)) (drops i w)
      ∙ sym (append_assoc (take i w) (take gone (drop i w)) (drop (i + gone) w))
    where
      drops : (n : ℕ) (l : List ℕ) → drop gone (drop n l) ≡ drop (n + gone) l
      drops zero l = let none : 0 + gone ≡ gone = omega arith in ap (λ k. drop k l) (sym none)
      drops (suc n) [] =
          let one : suc n + gone ≡ suc (n + gone) = omega arith in
          nothing gone ∙ ap (λ k. drop k []) (sym one)
        where
          nothing : (k : ℕ) → drop {A = ℕ} k [] ≡ []
          nothing zero = refl
          nothing (suc k) = refl
      drops (suc n) (x ∷ l) =
          let one : suc n + gone ≡ suc (n + gone) = omega arith in
          drops n l ∙ ap (λ k. drop k (x ∷ l)) (sym one)

  module _ (g : PlainGrammar) (sound : HasNoPoison g (framed w)) (put : List ℕ) where
    mid : List ℕ
    mid = take gone (drop i w)

    base_is : framed w ≡ h.front ++ (left ∷ map Token mid) ++ (right ∷ h.back)
    unfolding mid
    base_is = ap framed whole ∙ framed_patched (take gone (drop i w))

    base_sound : HasNoPoison g (h.front ++ (left ∷ map Token mid) ++ (right ∷ h.back))
    base_sound = subst (HasNoPoison g) base_is sound

    seam_long : length (between left put right) ≡ suc (suc (length put))
    seam_long = ap suc (many right put)

    -- a pair of the edited list is one of the base, and adjacent, or one of the seam
    pair_cases : (k : ℕ) (a b : Mark) → IsPair (framed (patched w i put gone)) k a b → IsAdjacent g a b ⊎ ((j : ℕ) × (k ≡ i + j) × IsPair (between left put right) j a b)
    pair_cases k a b p =
        let front = h.front in
        let back = h.back in
        let long = h.long in
        let wide = seam_long in
        let p' = subst (λ (l : List Mark). IsPair l k a b) (framed_patched put) p in
        let early = length-append front (left ∷ []) in
        let far = length-append front (left ∷ map Token put) in
        ⊎_elim
        (λ before.
        -- in front of the seam
        let q = subst (λ (l : List Mark). IsPair l k a b) (append_assoc front (left ∷ map Token put) (right ∷ back) ∙ sym (append_assoc front (left ∷ []) (map Token put ++ (right ∷ back)))) p' in
        let shared = left_pair (front ++ left ∷ []) (map Token put ++ (right ∷ back)) k a b (omega arith) q in
        let r = pair_left (front ++ left ∷ []) (map Token mid ++ (right ∷ back)) k a b shared in
        inl
        (base_sound k a b
        (subst (λ (l : List Mark). IsPair l k a b) (append_assoc front (left ∷ []) (map Token mid ++ (right ∷ back)) ∙ sym (append_assoc front (left ∷ map Token mid) (right ∷ back))) r)))
        (λ behind.
        ⊎_elim
        (λ inside.
        -- in the seam
        let j = k - i in
        let q = subst (λ (l : List Mark). IsPair l k a b) (seam put ∙ append_assoc front (between left put right) back) p' in
        let s = right_pair front (between left put right ++ back) k j a b (omega arith) q in
        inr (j, omega arith, left_pair (between left put right) back j a b (omega arith) s))
        (λ past.
        -- behind it
        let j = k - (i + suc (length put)) in
        let at : length (front ++ (left ∷ map Token put)) ≡ i + suc (length put) = far ∙ tokens_long in
        let s = right_pair (front ++ (left ∷ map Token put)) (right ∷ back) k j a b (omega arith) p' in
        inl (base_sound (length (front ++ (left ∷ map Token mid)) + j) a b (pair_right (front ++ (left ∷ map Token mid)) (right ∷ back) (length (front ++ (left ∷ map Token mid)) + j) j a b refl s)))
        (cases_lt k (i + suc (length put))))
        (cases_lt k i)
      where
        tokens_long : length h.front + length (left ∷ map Token put) ≡ i + suc (length put)
        tokens_long = let same = map_long put in let long = h.long in omega arith
          where
            map_long : (l : List ℕ) → length (map Token l) ≡ length l
            map_long [] = refl
            map_long (x ∷ l) = ap suc (map_long l)

    pub sound_behind : HasNoPoison g (between left put right) → HasNoPoison g (framed (patched w i put gone))
    sound_behind seam_sound k a b p = ⊎_elim (λ adjacent. adjacent) (λ here. seam_sound here.0 a b here.2) (pair_cases k a b p)

    pub poisoned_behind : (j k : ℕ) (a b : Mark) → k ≡ j + i → IsFirstPoisoned g (between left put right) j a b → IsFirstPoisoned g (framed (patched w i put gone)) k a b
    poisoned_behind j k a b is first =
        let long = h.long in
        let there = pair_right h.front (between left put right ++ h.back) k j a b (omega arith) (pair_left (between left put right) h.back j a b first.pair) in
        record {
          pair = subst (λ (l : List Mark). IsPair l k a b) (sym (framed_patched put ∙ seam put ∙ append_assoc h.front (between left put right) h.back)) there;
          poisoned = first.poisoned;
          earlier = λ m x y early p.
              ⊎_elim (λ adjacent. adjacent) (λ here. let at = here.1 in first.earlier here.0 x y (omega arith) here.2) (pair_cases m x y p);
        }

    -- where the first poisoned pair of the edited list stands in the seam
    pub seam_at : (at : ℕ) → IsPoisonedAt g (framed (patched w i put gone)) at → (j : ℕ) × (at ≡ i + j) × (j ≤ length put)
    seam_at at p =
        let wide = seam_long in
        ⊎_elim (λ adjacent. absurd (p.2.poisoned adjacent))
        (λ here. (here.0, here.1, let within = slice_get_within (between left put right) (here.0 + 1) p.1 here.2.right in omega arith))
        (pair_cases at p.0 p.1 p.2.pair)

    -- it is the only one where none stands behind it in the seam
    pub only_in_seam : (at j : ℕ) → at ≡ i + j → IsPoisonedAt g (framed (patched w i put gone)) at → IsSoundBehind g (between left put right) j ↔ IsOnlyAt g (framed (patched w i put gone)) at
    only_in_seam at j is first = (forth, back)
      where
        forth : IsSoundBehind g (between left put right) j → IsOnlyAt g (framed (patched w i put gone)) at
        forth sound_seam k a b differs p =
            ⊎_elim (λ adjacent. adjacent)
            (λ here.
            ⊎_elim (λ before. first.2.earlier k a b (let there = here.1 in omega arith) p)
            (λ not_before.
            ⊎_elim (λ behind. sound_seam here.0 a b behind here.2)
            (λ not_behind. absurd (differs (let there = here.1 in omega arith)))
            (cases_lt j here.0))
            (cases_lt here.0 j))
            (pair_cases k a b p)

        back : IsOnlyAt g (framed (patched w i put gone)) at → IsSoundBehind g (between left put right) j
        back only m a b behind p =
            let long = h.long in
            let there = pair_right h.front (between left put right ++ h.back) (m + i) m a b (omega arith) (pair_left (between left put right) h.back m a b p) in
            only (m + i) a b (λ same. absurd (omega (arith, same, is, behind)))
            (subst (λ (l : List Mark). IsPair l (m + i) a b) (sym (framed_patched put ∙ seam put ∙ append_assoc h.front (between left put right) h.back)) there)

pub mark_token : (w : List ℕ) (at k : ℕ) → at ≡ k + 1 → k < length w → slice_get (framed w) at ≡ Some (Token (get_or w k 0))
mark_token w at k is within = ap (slice_get (framed w)) (is ∙ add-one k) ∙ token_at End w k 0 within

pub mark_last : (w : List ℕ) (at : ℕ) → at ≡ length w + 1 → slice_get (framed w) at ≡ Some End
mark_last w at is = ap (slice_get (framed w)) (is ∙ add-one (length w)) ∙ last_at End w

module _ (tokens : ℕ) (w : List ℕ) (all : All (IsNumberOf tokens) w) where
  some_right : (k : ℕ) (m : Mark) → slice_get (map Token w ++ End ∷ []) k ≡ Some m → IsRight tokens m
  some_right k m is =
      let within = slice_get_within (map Token w ++ End ∷ []) k m is in
      let long = many End w in
      ⊎_elim
      (λ inside. subst (IsRight tokens) (same m (sym (token_at End w k 0 inside) ∙ is)) (all k 0 inside))
      (λ last.
      let at : k ≡ length w = omega arith in
      subst (IsRight tokens) (same m (sym (last_at End w) ∙ ap (slice_get (map Token w ++ End ∷ [])) (sym at) ∙ is)) tt)
      (cases_lt k (length w))
    where
      same : {a : Mark} (b : Mark) → Some a ≡ Some b → a ≡ b
      same b e = cc

  pub mark_right : (k : ℕ) (m : Mark) → slice_get (framed w) (k + 1) ≡ Some m → IsRight tokens m
  mark_right k m is = some_right k m (ap (slice_get (framed w)) (sym (add-one k)) ∙ is)

  pub mark_left : (k : ℕ) (m : Mark) → k ≤ length w → slice_get (framed w) k ≡ Some m → IsLeft tokens m
  mark_left zero m within is = let same : Begin ≡ m = cc in subst (IsLeft tokens) same tt
  mark_left (suc k) m within is =
      let same : Token (get_or w k 0) ≡ m = let there = token_at End w k 0 (omega arith) in cc in
      subst (IsLeft tokens) same (all k 0 (omega arith))

-- where a pair of a seam may stand
pub seam_place : (g : PlainGrammar) (left right : Mark) (put : List ℕ) (at : ℕ) (a b : Mark) → IsFirstPoisoned g (between left put right) at a b → at ≤ length put
seam_place g left right put at a b first =
    let within = slice_get_within (between left put right) (at + 1) b first.pair.right in
    let long = many right put in
    omega arith
