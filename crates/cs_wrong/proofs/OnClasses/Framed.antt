-- The marks of a framed list.
use Rattle.std.proofs.Common.{◌≡◌, ◌≤◌, ◌<◌, ℕ, zero, suc, ◌+◌, ◌-◌, List, [], ◌∷◌, ◌++◌, get_or, length, length-append, map, refl, ap, ◌∙◌, subst, arith, Option, Some, None}
use Rattle.std.specs.Prelude.{slice_get}
use Rattle.std.proofs.lemmas.List.{length-map}
use Rattle.std.proofs.lemmas.Option.{slice_get_within}
use Rattle.cs_grammar.specs.Grammar.{PlainGrammar}
use Rattle.cs_grammar.specs.Sentence.{framed}
use Rattle.cs_grammar.specs.declared.symbol.Mark.{Mark}
use Rattle.cs_grammar.specs.declared.symbol.Mark.TheVariants.{Token, End}
use Rattle.cs_mutate.specs.Poison.{HasNoPoison, IsFirstPoisoned, IsPoisonedAt, TellsPlace}

-- behind the first mark
token_at : (list : List ℕ) (k d : ℕ) → k < length list → slice_get (map Token list ++ End ∷ []) k ≡ Some (Token (get_or list k d))
token_at [] k d within = absurd (omega (arith, within))
token_at (x ∷ list) zero d within = refl
token_at (x ∷ list) (suc k) d within = token_at list k d (omega (arith, within))

end_at : (list : List ℕ) → slice_get (map Token list ++ End ∷ []) (length list) ≡ Some End
end_at [] = refl
end_at (x ∷ list) = end_at list

-- the mark at a place
pub token_mark : (list : List ℕ) (place d : ℕ) → (place ≡ 0 → ⊥) → place ≤ length list → slice_get (framed list) place ≡ Some (Token (get_or list (place - 1) d))
token_mark list zero d some within = absurd (some refl)
token_mark list (suc k) d some within =
    let e : k ≡ suc k - 1 = omega arith in
    token_at list k d (omega (arith, within)) ∙ ap (λ (n : ℕ). Some (Token (get_or list n d))) e

pub end_mark : (list : List ℕ) (place : ℕ) → length list < place → place < length list + 2 → slice_get (framed list) place ≡ Some End
end_mark list zero past within = absurd (omega (arith, past))
end_mark list (suc k) past within =
    let e : k ≡ length list = omega (arith, past, within) in
    ap (λ (n : ℕ). slice_get (map Token list ++ End ∷ []) n) e ∙ end_at list

module _ (g : PlainGrammar) (list : List ℕ) (at : ℕ) (poisoned : IsPoisonedAt g (framed list) at) where
  -- both places are within
  pub within_framed : at + 1 < length list + 2
  within_framed =
      let pair = poisoned.2.pair in
      omega (arith, slice_get_within (framed list) (at + 1) poisoned.1 pair.right, length-append (map Token list) (End ∷ []), length-map list (λ (t : ℕ). Token t))

  -- and the marks there are those of the pair
  pub first_pair : (left right : Mark) → slice_get (framed list) at ≡ Some left → slice_get (framed list) (at + 1) ≡ Some right → IsFirstPoisoned g (framed list) at left right
  first_pair left right here next =
      let pair = poisoned.2.pair in
      let lefts : poisoned.0 ≡ left = (let there = pair.left in cc) in
      let rights : poisoned.1 ≡ right = (let there = pair.right in cc) in
      subst (λ (m : Mark). IsFirstPoisoned g (framed list) at m right) lefts (subst (λ (m : Mark). IsFirstPoisoned g (framed list) at poisoned.0 m) rights poisoned.2)

-- where no pair was found none is poisoned
pub harmless : (g : PlainGrammar) (list : List ℕ) (found : Option ℕ) → ((at : ℕ) → found ≡ Some at → ⊥) → TellsPlace g (framed list) found → HasNoPoison g (framed list)
harmless g list None none tells = tells
harmless g list (Some at) none tells = absurd (none at refl)
