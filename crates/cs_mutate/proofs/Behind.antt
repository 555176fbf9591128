-- Pairs behind a place, and whether a poisoned pair is the only one.
use Rattle.std.proofs.Common.{◌≡◌, ◌↔◌, ℕ, suc, ◌+◌, ◌-◌, ◌<◌, ◌≤◌, Bool, true, false, not, List, [], ◌∷◌, ◌++◌, map, take, drop, length, get_or, Option, Some, None, refl, sym, ap, ◌∙◌, subst, ⊎_elim, append_assoc, arith}
use Rattle.std.specs.Prelude.{IfSome, MatchOption, IsTrue, is_some, slice_get}
use Rattle.std.specs.List.{All}
use Rattle.std.proofs.lemmas.Bool.{cases_lt}
use Rattle.std.proofs.lemmas.Option.{slice_get-get_or, slice_get_within}
use Rattle.std.proofs.lemmas.List.{drop_more, length-map, length-take-le, map-append, take-append-drop}
use Rattle.cs_grammar.specs.declared.symbol.Mark.{Mark}
use Rattle.cs_grammar.specs.declared.symbol.Mark.TheVariants.{Begin, Token, End}
use Rattle.cs_grammar.specs.Grammar.{PlainGrammar, IsNumberOf}
use Rattle.cs_grammar.specs.Sentence.{framed}
use Rattle.cs_goals.specs.Goal.{IsLeft}
use Rattle.cs_mutate.specs.declared.negative.Negative.{Negative}
use Rattle.cs_mutate.specs.declared.poisoning.PoisonedPair.{PoisonedPair}
use Rattle.cs_mutate.specs.Edit.{Fits, edited, patched}
use Rattle.cs_mutate.specs.declared.edit.Edit.{Edit}
use Rattle.cs_mutate.specs.Negatives.{IsHarmless, IsNegative, IsNext}
use Rattle.cs_mutate.specs.Poison.{IsPair, HasNoPoison, IsFirstPoisoned, IsPoisonedAt, between}
use Rattle.cs_mutate.specs.Kept.{IsOnlyAt}
use Rattle.cs_mutate.specs.Keeping.{IsSoundBehind}
use Rattle.cs_mutate.proofs.Marks.{many}
use Rattle.cs_mutate.proofs.Seams.{Around, around, mark_left, only_in_seam, pair_right, right_pair, seam_at}
use Rattle.cs_mutate.proofs.Searching.{edited_tokens, fits_found}

-- there is none where each pair is adjacent
pub none_where_sound : (g : PlainGrammar) (marks : List Mark) (found : Option PoisonedPair) (none : Bool) → MatchOption found (HasNoPoison g marks) (λ p. IsFirstPoisoned g marks p.at p.left p.right) → is_some found ≡ not none → IsTrue none ↔ HasNoPoison g marks
none_where_sound g marks None true h is = (λ t. h, λ s. refl)
none_where_sound g marks None false h is = absurd cc
none_where_sound g marks (Some p) true h is = absurd cc
none_where_sound g marks (Some p) false h is = (λ (t : false ≡ true). absurd cc, λ sound. absurd (h.poisoned (sound p.at p.left p.right h.pair)))

module _ (g : PlainGrammar) (left right : Mark) (w : List ℕ) where
  -- behind the last
  pub sound_past : (at : ℕ) → at ≡ length w → IsSoundBehind g (between left w right) at
  sound_past at is k a b behind p =
      let long = many right w in
      let within = slice_get_within (between left w right) (k + 1) b p.right in
      absurd (omega (arith, long, within, behind, is))

  module _ (at t : ℕ) (within : at < length w) (is : t ≡ get_or w at 0) where
    abbrev front : List Mark
    front = left ∷ map Token (take at w)

    abbrev rest : List Mark
    rest = between (Token t) (drop (at + 1) w) right

    long : length front ≡ suc at
    long = ap suc (length-map (take at w) Token ∙ length-take-le at w (omega (arith, within)))

    whole : between left w right ≡ front ++ rest
    whole =
        ap (λ (l : List ℕ). left ∷ map Token l ++ right ∷ []) (sym (take-append-drop at w) ∙ ap (λ (l : List ℕ). take at w ++ l) (drop_more w at 0 within ∙ ap (λ n. n ∷ drop (at + 1) w) (sym is)))
        ∙ ap (λ (l : List Mark). left ∷ l ++ right ∷ []) (map-append Token (take at w) (t ∷ drop (at + 1) w))
        ∙ append_assoc (left ∷ map Token (take at w)) (Token t ∷ map Token (drop (at + 1) w)) (right ∷ [])

    pub sound_rest : HasNoPoison g rest ↔ IsSoundBehind g (between left w right) at
    sound_rest = (
      λ sound k a b behind p. sound (k - suc at) a b (right_pair front rest k (k - suc at) a b (let l = long in omega (arith, l, behind)) (subst (λ (m : List Mark). IsPair m k a b) whole p)),
      λ sound j a b p.
          sound (suc at + j) a b (omega arith) (subst (λ (m : List Mark). IsPair m (suc at + j) a b) (sym whole) (pair_right front rest (suc at + j) j a b (let l = long in omega (arith, l)) p)),
    )

-- the first is the only one where each pair behind it is adjacent
pub only_first : (g : PlainGrammar) (marks : List Mark) (at : ℕ) → IsPoisonedAt g marks at → IsSoundBehind g marks at ↔ IsOnlyAt g marks at
only_first g marks at first = (
  λ sound k a b differs p.
      ⊎_elim (λ before. first.2.earlier k a b before p)
      (λ not_before. ⊎_elim (λ behind. sound k a b behind p) (λ not_behind. absurd (differs (omega (arith, not_before, not_behind)))) (cases_lt at k))
      (cases_lt k at),
  λ only k a b behind p. only k a b (λ same. absurd (omega (arith, same, behind))) p,
)

-- the left mark of a negative is the begin mark or a token
pub has_left : (g : PlainGrammar) (w : List ℕ) (n : Negative) → All (IsNumberOf g.tokens) w → Fits (length w) g.tokens n.edit → IsNegative g w n → IsLeft g.tokens n.left
has_left g w n tokens fits negative =
    let v = edited w n.edit in
    let within = slice_get_within (framed v) (n.at + 1) n.right negative.pair.right in
    let long = many End v in
    mark_left g.tokens v (edited_tokens g.tokens w tokens n.edit fits) n.at n.left (omega (arith, within, long)) negative.pair.left

-- so is that of one that a search finds
pub left_found : (g : PlainGrammar) (w : List ℕ) (old : List Edit) (found : Option Negative) (new : List Edit) → All (IsNumberOf g.tokens) w → All (Fits (length w) g.tokens) old
    → MatchOption found (All (IsHarmless g w) old × (new ≡ [])) (λ n. IsNext g w old n new) → IfSome found (λ n. IsLeft g.tokens n.left)
left_found g w old None new tokens fits h = tt
left_found g w old (Some n) new tokens fits h = has_left g w n tokens (fits_found g w old (Some n) new fits h) h.negative

-- an edit's result whose seam was read behind its first poisoned pair
module _ (g : PlainGrammar) (w : List ℕ) (i gone : ℕ) (right : Mark) (put : List ℕ) (sound : HasNoPoison g (framed w)) (inside : i + gone ≤ length w)
    (is_right : slice_get (framed w) (i + gone + 1) ≡ Some right) (at : ℕ) (poisoned : IsPoisonedAt g (framed (patched w i put gone)) at) where
  abbrev left_of : Mark
  left_of = get_or (framed w) i Begin

  stands : Around w i gone left_of right
  stands =
      let long = many End w in
      around w i gone left_of right inside (slice_get-get_or (framed w) i Begin (omega (arith, long, inside))) is_right

  pub place_in_seam : (i ≤ at) × (at - i ≤ length put)
  place_in_seam =
      let s = seam_at w i gone left_of right stands g sound put at poisoned in
      (omega (arith, s.1), omega (arith, s.1, s.2))

  pub only_by_seam : (only : Bool) → ((left : Mark) → IsTrue only ↔ IsSoundBehind g (between left put right) (at - i)) → IsTrue only ↔ IsOnlyAt g (framed (patched w i put gone)) at
  only_by_seam only told =
      let here = only_in_seam w i gone left_of right stands g sound put at (at - i) (let p = place_in_seam.0 in omega (arith, p)) poisoned in
      let read = told left_of in
      (λ is. here.0 (read.0 is), λ alone. read.1 (here.1 alone))
