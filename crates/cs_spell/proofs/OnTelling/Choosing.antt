-- The best candidate, one rule after another.
use Rattle.std.proofs.Common.{◌≡◌, ℕ, ◌+◌, ◌<◌, ◌≤◌, Bool, true, List, [], Option, None, Some, inl, inr, sym, ap, subst, ◌∙◌, arith, length, get_or}
use Rattle.std.specs.Prelude.{◌↔◌, IsTrue, slice_get}
use Rattle.std.proofs.lemmas.Bool.{cases_lt}
use Rattle.std.proofs.lemmas.List.{get_or_default}
use Rattle.std.proofs.lemmas.Option.{get_or_from_slice_get, slice_get-get_or, slice_get_within}
use Rattle.cs_grammar.specs.Grammar.{PlainGrammar, Production}
use Rattle.cs_manifest.specs.Manifest.Lines.{is_large}
use Rattle.cs_spell.specs.Telling.Chosen.{HasLarge, IsBetter, IsCandidate, IsWanted, IsWantedAt, RuleVerdict, size_in}
use Rattle.cs_spell.specs.Telling.Choosing.{IsBestAt, IsBestBelow, IsCandidateAt, IsChoice, IsLargeAt, verdict_at}
use Rattle.cs_verdicts.specs.declared.positive.verdict.Verdict.TheVariants.{Infeasible}

-- ---- what is better

not_itself : (wanted : Option ℕ) (a : RuleVerdict) → IsBetter wanted a a → ⊥
not_itself (Some t) a better = omega (arith, better)
not_itself None a better = omega (arith, better)

through : (wanted : Option ℕ) (a b c : RuleVerdict) → IsBetter wanted a b → IsBetter wanted b c → IsBetter wanted a c
through (Some t) a b c one two = omega (arith, one, two)
through None a b c one two = omega (arith, one, two)

-- better than what isn't better than a worse one
ahead : (wanted : Option ℕ) (a b c : RuleVerdict) → IsBetter wanted a b → (IsBetter wanted c b → ⊥) → IsBetter wanted a c
ahead (Some t) a b c one lacks = elim (cases_lt (size_in c.verdict) (size_in b.verdict)) [ inl less ↦ absurd (lacks less) | inr most ↦ omega (arith, one, most) ]
ahead None a b c one lacks = elim (cases_lt (length b.tokens) (length c.tokens)) [ inl less ↦ absurd (lacks less) | inr most ↦ omega (arith, one, most) ]

pub at_index : (judged : List RuleVerdict) (place : ℕ) (x : RuleVerdict) → place < length judged → x ≡ get_or judged place x → verdict_at judged place ≡ x
at_index judged place x less is = get_or_default judged place (record { verdict = Infeasible; tokens = [] }) x less ∙ sym is

module _ (g : PlainGrammar) (judged : List RuleVerdict) (wanted : Option ℕ) where
  is_at : (place : ℕ) (j : RuleVerdict) → slice_get judged place ≡ Some j → j ≡ verdict_at judged place
  is_at place j at = sym (get_or_from_slice_get judged place j (record { verdict = Infeasible; tokens = [] }) at)

  moved : (place limit : ℕ) (j : RuleVerdict) → place ≡ limit → IsCandidate g judged wanted place j → IsCandidateAt g judged wanted limit
  moved place limit j e c =
      let here : IsCandidateAt g judged wanted place = subst (IsCandidate g judged wanted place) (is_at place j c.0.at) c in
      subst (IsCandidateAt g judged wanted) e here

  -- the verdict of what stands at the limit
  same_as : (place limit : ℕ) (j : RuleVerdict) → place ≡ limit → IsCandidate g judged wanted place j → j ≡ verdict_at judged limit
  same_as place limit j e c = subst (λ q. j ≡ verdict_at judged q) e (is_at place j c.0.at)

  pub best_none : IsBestBelow g judged wanted 0 None
  best_none = λ place j less c. absurd (omega (arith, less))

  pub best_skip : (limit : ℕ) (best : Option ℕ) → IsBestBelow g judged wanted limit best → (IsCandidateAt g judged wanted limit → ⊥) → IsBestBelow g judged wanted (limit + 1) best
  best_skip limit None so_far lacks = λ place j less c.
      elim (cases_lt place limit) [
        | inl under ↦ so_far place j under c
        | inr over ↦ let e : place ≡ limit = omega (arith, over, less) in lacks (moved place limit j e c)
      ]
  best_skip limit (Some k) so_far lacks = record {
    below = omega (arith, so_far.below);
    is = so_far.is;
    best = λ other j less c better.
        elim (cases_lt other limit) [
          | inl under ↦ so_far.best other j under c better
          | inr over ↦ let e : other ≡ limit = omega (arith, over, less) in lacks (moved other limit j e c)
        ];
    first = so_far.first;
  }

  pub best_first : (limit : ℕ) → IsBestBelow g judged wanted limit None → IsCandidateAt g judged wanted limit → IsBestBelow g judged wanted (limit + 1) (Some limit)
  best_first limit so_far is = record {
    below = omega arith;
    is = is;
    best = λ other j less c better.
        elim (cases_lt other limit) [
          | inl under ↦ so_far other j under c
          | inr over ↦
              let e : other ≡ limit = omega (arith, over, less) in
              not_itself wanted (verdict_at judged limit) (subst (λ t. IsBetter wanted t (verdict_at judged limit)) (same_as other limit j e c) better)
        ];
    first = λ other j before c. absurd (so_far other j before c);
  }

  pub best_new : (limit k : ℕ) → IsBestAt g judged wanted limit k → IsCandidateAt g judged wanted limit → IsBetter wanted (verdict_at judged limit) (verdict_at judged k) → IsBestBelow g judged wanted (limit + 1) (Some limit)
  best_new limit k so_far is new = record {
    below = omega arith;
    is = is;
    best = λ other j less c better.
        elim (cases_lt other limit) [
          | inl under ↦ so_far.best other j under c (through wanted j (verdict_at judged limit) (verdict_at judged k) better new)
          | inr over ↦
              let e : other ≡ limit = omega (arith, over, less) in
              not_itself wanted (verdict_at judged limit) (subst (λ t. IsBetter wanted t (verdict_at judged limit)) (same_as other limit j e c) better)
        ];
    first = λ other j before c. ahead wanted (verdict_at judged limit) (verdict_at judged k) j new (so_far.best other j before c);
  }

  pub best_old : (limit k : ℕ) → IsBestAt g judged wanted limit k → (IsBetter wanted (verdict_at judged limit) (verdict_at judged k) → ⊥) → IsBestBelow g judged wanted (limit + 1) (Some k)
  best_old limit k so_far lacks = record {
    below = omega (arith, so_far.below);
    is = so_far.is;
    best = λ other j less c better.
        elim (cases_lt other limit) [
          | inl under ↦ so_far.best other j under c better
          | inr over ↦
              let e : other ≡ limit = omega (arith, over, less) in
              lacks (subst (λ t. IsBetter wanted t (verdict_at judged k)) (same_as other limit j e c) better)
        ];
    first = so_far.first;
  }

  pub best_all : (limit : ℕ) (best : Option ℕ) → length judged ≤ limit → limit ≤ length judged → IsBestBelow g judged wanted limit best → IsChoice g judged wanted best
  best_all limit None most least so_far = λ place j c. so_far place j (omega (arith, slice_get_within judged place j c.0.at, most)) c
  best_all limit (Some k) most least so_far = (
    omega (arith, so_far.below, least),
    record {
      is = so_far.is;
      best = λ other j c better. so_far.best other j (omega (arith, slice_get_within judged other j c.0.at, most)) c better;
      first = λ other j c before. so_far.first other j before c;
    },
  )

  -- ---- large goals

  pub large_at : (place : ℕ) → IsLargeAt g judged wanted place → HasLarge g judged wanted
  large_at place is = (place, verdict_at judged place, is.0, is.1)

  pub large_none : (limit : ℕ) → length judged ≤ limit → ((place : ℕ) → place < limit → IsLargeAt g judged wanted place → ⊥) → HasLarge g judged wanted → ⊥
  large_none limit most none h =
      let e = is_at h.0 h.1 h.2.at in
      none h.0 (omega (arith, slice_get_within judged h.0 h.1 h.2.at, most))
      (subst (λ t. IsWantedAt g judged wanted h.0 t × (is_large t.verdict ≡ true)) e (h.2, h.3))

  -- ---- one rule

  pub flagged : (flag : RuleVerdict → Bool) (list : List Production) (rule : Production) (x : RuleVerdict) (place : ℕ) (w f r : Bool) → list ≡ g.rules → place < length list → rule ≡ get_or list place rule → place < length judged → x ≡ get_or judged place x
      → IsTrue w ↔ IsWanted wanted rule → f ≡ flag x → IsTrue r ↔ (IsTrue w × IsTrue f) → IsTrue r ↔ (IsWantedAt g judged wanted place (verdict_at judged place) × (flag (verdict_at judged place) ≡ true))
  flagged flag list rule x place w f r same within rule_is less is wants f_is both =
      let e : verdict_at judged place ≡ x = at_index judged place x less is in
      let at_rule : slice_get g.rules place ≡ Some rule = subst (λ (l : List Production). slice_get l place ≡ Some rule) same (slice_get-get_or list place rule within ∙ ap Some (sym rule_is)) in
      let at : slice_get judged place ≡ Some (verdict_at judged place) = slice_get-get_or judged place (record { verdict = Infeasible; tokens = [] }) less in (
        λ t. let p = both.0 t in (record { rule = rule; at_rule = at_rule; is_wanted = wants.0 p.0; at = at }, ap flag e ∙ sym f_is ∙ p.1),
        λ q.
            let there = q.0.at_rule in
            let one : q.0.rule ≡ rule = cc in
            both.1 (wants.1 (subst (IsWanted wanted) one q.0.is_wanted), f_is ∙ ap flag (sym e) ∙ q.1),
      )
