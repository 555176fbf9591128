-- Pairs in a list of marks, and which of them were looked at.
use Rattle.std.proofs.Common.{◌≡◌, ℕ, zero, suc, ◌+◌, ◌<◌, List, [], ◌∷◌, ◌++◌, map, length, get_or, Some, refl, sym, ap, ◌∙◌, subst, ⊎_elim, add-one, arith}
use Rattle.std.specs.Prelude.{slice_get}
use Rattle.std.proofs.lemmas.Bool.{cases_lt}
use Rattle.std.proofs.lemmas.Option.{slice_get_within}
use Rattle.cs_grammar.specs.declared.symbol.Mark.{Mark}
use Rattle.cs_grammar.specs.declared.symbol.Mark.TheVariants.{Token}
use Rattle.cs_grammar.specs.Grammar.{PlainGrammar, IsNumberOf}
use Rattle.cs_grammar.specs.Sentence.{IsSentence, framed, IsFollowed}
use Rattle.cs_goals.specs.Goal.{IsLeft}
use Rattle.cs_pairs.specs.Pairs.Pairs.{IsAdjacent}
use Rattle.cs_mutate.specs.Poison.{IsPair, HasNoPoison, IsFirstPoisoned, IsPoisonedAt, between}

-- what stands where between two marks
module _ (right : Mark) where
  pub token_at : (w : List ℕ) (k d : ℕ) → k < length w → slice_get (map Token w ++ right ∷ []) k ≡ Some (Token (get_or w k d))
  token_at [] k d within = absurd (omega arith)
  token_at (x ∷ w) zero d within = refl
  token_at (x ∷ w) (suc k) d within = token_at w k d (omega arith)

  pub last_at : (w : List ℕ) → slice_get (map Token w ++ right ∷ []) (length w) ≡ Some right
  last_at [] = refl
  last_at (x ∷ w) = last_at w

  pub many : (w : List ℕ) → length (map Token w ++ right ∷ []) ≡ suc (length w)
  many [] = refl
  many (x ∷ w) = ap suc (many w)

next_token : (left right : Mark) (w : List ℕ) (k d : ℕ) → k < length w → slice_get (between left w right) (k + 1) ≡ Some (Token (get_or w k d))
next_token left right w k d within = ap (slice_get (between left w right)) (add-one k) ∙ token_at right w k d within

next_last : (left right : Mark) (w : List ℕ) (k : ℕ) → k ≡ length w → slice_get (between left w right) (k + 1) ≡ Some right
next_last left right w k is = ap (slice_get (between left w right)) (add-one k ∙ ap suc is) ∙ last_at right w

-- the pairs in front of a place are adjacent, and this mark stands there
pub record Looked (g : PlainGrammar) (marks : List Mark) (at : ℕ) (last : Mark) : Type 0 where
  pub stands : slice_get marks at ≡ Some last
  pub is_left : IsLeft g.tokens last
  pub sound : (k : ℕ) (x y : Mark) → k < at → IsPair marks k x y → IsAdjacent g x y

same_some : (a b : Mark) → Some a ≡ Some b → a ≡ b
same_some a b e = cc

-- one pair at a place
pub one_pair : (marks : List Mark) (k : ℕ) (a b x y : Mark) → slice_get marks k ≡ Some a → slice_get marks (k + 1) ≡ Some b → IsPair marks k x y → (a ≡ x) × (b ≡ y)
one_pair marks k a b x y is_a is_b h = (same_some a x (sym is_a ∙ h.left), same_some b y (sym is_b ∙ h.right))

module _ (g : PlainGrammar) (left right : Mark) (w : List ℕ) where
  pub looked_none : IsLeft g.tokens left → Looked g (between left w right) 0 left
  looked_none is_left = record { stands = refl; is_left = is_left; sound = λ k x y early h. absurd (omega arith) }

  pub looked_more : (i d t : ℕ) (last : Mark) → i < length w → t ≡ get_or w i d → IsNumberOf g.tokens t → Looked g (between left w right) i last → IsAdjacent g last (Token t) → Looked g (between left w right) (i + 1) (Token t)
  looked_more i d t last within is number h adjacent =
      let there : slice_get (between left w right) (i + 1) ≡ Some (Token t) = next_token left right w i d within ∙ ap (λ n. Some (Token n)) (sym is) in
      record {
        stands = there;
        is_left = number;
        sound = λ k x y early p.
            ⊎_elim (λ before. h.sound k x y before p)
            (λ here.
            let at : k ≡ i = omega arith in
            let q = subst (λ n. IsPair (between left w right) n x y) at p in
            let same = one_pair (between left w right) i last (Token t) x y h.stands there q in
            subst (λ m. IsAdjacent g m y) same.0 (subst (λ m. IsAdjacent g last m) same.1 adjacent))
            (cases_lt k i);
      }

  pub poisoned_here : (i d t : ℕ) (last : Mark) → i < length w → t ≡ get_or w i d → Looked g (between left w right) i last → (IsAdjacent g last (Token t) → ⊥) → IsFirstPoisoned g (between left w right) i last (Token t)
  poisoned_here i d t last within is h never = record {
    pair = record { left = h.stands; right = next_token left right w i d within ∙ ap (λ n. Some (Token n)) (sym is) };
    poisoned = never;
    earlier = h.sound;
  }

  module _ (i : ℕ) (last : Mark) (all : i ≡ length w) (h : Looked g (between left w right) i last) where
    pub poisoned_last : (IsAdjacent g last right → ⊥) → IsFirstPoisoned g (between left w right) (length w) last right
    poisoned_last never = subst (λ n. IsFirstPoisoned g (between left w right) n last right) all (record {
      pair = record { left = h.stands; right = next_last left right w i all };
      poisoned = never;
      earlier = h.sound;
    })

    pub sound_all : IsAdjacent g last right → HasNoPoison g (between left w right)
    sound_all adjacent k x y p =
        let long = many right w in
        let inside = slice_get_within (between left w right) (k + 1) y p.right in
        ⊎_elim (λ before. h.sound k x y before p)
        (λ here.
        let at : k ≡ i = omega arith in
        let q = subst (λ n. IsPair (between left w right) n x y) at p in
        let same = one_pair (between left w right) i last right x y h.stands (next_last left right w i all) q in
        subst (λ m. IsAdjacent g m y) same.0 (subst (λ m. IsAdjacent g last m) same.1 adjacent))
        (cases_lt k i)

-- a pair is followed
followed : (marks : List Mark) (k : ℕ) (a b : Mark) → slice_get marks k ≡ Some a → slice_get marks (suc k) ≡ Some b → IsFollowed a b marks
followed [] k a b is_a is_b = absurd cc
followed (x ∷ []) zero a b is_a is_b = absurd cc
followed (x ∷ y ∷ l) zero a b is_a is_b =
    let one : x ≡ a = cc in
    let other : y ≡ b = cc in
    ([], l, ap (λ m. m ∷ y ∷ l) one ∙ ap (λ m. a ∷ m ∷ l) other)
followed (x ∷ l) (suc k) a b is_a is_b = let r = followed l k a b is_a is_b in (x ∷ r.0, r.1, ap (λ (s : List Mark). x ∷ s) r.2)

-- a list with a poisoned pair is no sentence
pub outside : (g : PlainGrammar) (w : List ℕ) (k : ℕ) → IsPoisonedAt g (framed w) k → IsSentence g w → ⊥
outside g w k h sentence =
    let p = h.2.pair in
    h.2.poisoned (w, sentence, followed (framed w) k h.0 h.1 p.left (ap (slice_get (framed w)) (sym (add-one k)) ∙ p.right))
