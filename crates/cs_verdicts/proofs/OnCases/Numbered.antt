-- No two goals have one number, so a slot tells which goal it has.
use Rattle.std.proofs.Common.{◌≡◌, ℕ, ◌<◌, List, refl, sym, ap, ◌∙◌, subst, arith}
use Rattle.cs_goals.specs.declared.goal.Goal.{Goal}
use Rattle.cs_verdicts.specs.declared.cases.firsts.Key.{Key}
use Rattle.cs_verdicts.specs.declared.cases.firsts.Key.TheVariants.{Rule, Context, Pair}
use Rattle.cs_verdicts.specs.declared.cases.firsts.MarkKey.{MarkKey}
use Rattle.cs_verdicts.specs.declared.cases.firsts.MarkKey.TheVariants.{Begin, Token, End}
use Rattle.cs_verdicts.specs.Cases.Firsts.{IsRecent, IsSmall, IsSmallMark, goal_of, key_of}
use Rattle.cs_verdicts.specs.Cases.KeyHash.{hash_number, mark_number}
use Rattle.cs_verdicts.specs.Cases.Table.{HasNumber}
use Rattle.cs_verdicts.proofs.OnCases.Keyed.{goal_of-key_of}

small_number : (a : MarkKey) → IsSmallMark a → mark_number a < 131072
small_number Begin h = omega arith
small_number (Token t) h = omega (arith, h)
small_number End h = omega arith

same_mark_number : (a b : MarkKey) → IsSmallMark a → IsSmallMark b → mark_number a ≡ mark_number b → a ≡ b
same_mark_number Begin Begin h k e = refl
same_mark_number Begin (Token t) h k e = absurd (omega (arith, k, e))
same_mark_number Begin End h k e = absurd (omega (arith, e))
same_mark_number (Token s) Begin h k e = absurd (omega (arith, h, e))
same_mark_number (Token s) (Token t) h k e = ap Token e
same_mark_number (Token s) End h k e = absurd (omega (arith, h, e))
same_mark_number End Begin h k e = absurd (omega (arith, e))
same_mark_number End (Token t) h k e = absurd (omega (arith, k, e))
same_mark_number End End h k e = refl

pub some_number : (a : Key) → 0 < hash_number a
some_number (Rule r) = omega arith
some_number (Context p i q) = omega arith
some_number (Pair a b) = omega arith

same_number : (a b : Key) → IsSmall a → IsSmall b → hash_number a ≡ hash_number b → a ≡ b
same_number (Rule r) (Rule s) h k e = let same : r ≡ s = omega (arith, e) in ap Rule same
same_number (Rule r) (Context p i q) h k e = absurd (omega (arith, h, e))
same_number (Rule r) (Pair a b) h k e = absurd (omega (arith, h, e))
same_number (Context p i q) (Rule s) h k e = absurd (omega (arith, k, e))
same_number (Context p i q) (Context o j s) h k e =
    let hp = h.0 in
    let hi = h.1 in
    let hq = h.2 in
    let ko = k.0 in
    let kj = k.1 in
    let ks = k.2 in
    let outer : p ≡ o = omega (arith, hp, hi, hq, ko, kj, ks, e) in
    let place : i ≡ j = omega (arith, hp, hi, hq, ko, kj, ks, e) in
    let inner : q ≡ s = omega (arith, hp, hi, hq, ko, kj, ks, e) in
    ap (λ (x : ℕ). Context x i q) outer ∙ ap (λ (x : ℕ). Context o x q) place ∙ ap (λ (x : ℕ). Context o j x) inner
same_number (Context p i q) (Pair a b) h k e =
    let x = small_number a k.0 in
    let y = small_number b k.1 in
    absurd (omega (arith, x, y, e))
same_number (Pair a b) (Rule s) h k e = absurd (omega (arith, k, e))
same_number (Pair a b) (Context p i q) h k e =
    let x = small_number a h.0 in
    let y = small_number b h.1 in
    absurd (omega (arith, x, y, e))
same_number (Pair a b) (Pair c d) h k e =
    let x = small_number a h.0 in
    let y = small_number b h.1 in
    let z = small_number c k.0 in
    let w = small_number d k.1 in
    let left : mark_number a ≡ mark_number c = omega (arith, x, y, z, w, e) in
    let right : mark_number b ≡ mark_number d = omega (arith, x, y, z, w, e) in
    ap (λ (m : MarkKey). Pair m b) (same_mark_number a c h.0 k.0 left) ∙ ap (λ (m : MarkKey). Pair c m) (same_mark_number b d h.1 k.1 right)

module _ (firsts : List (Goal × ℕ)) (goal : Goal) (number : ℕ) (is : number ≡ hash_number (key_of goal)) (small : IsSmall (key_of goal)) where
  pub recent_has : IsRecent firsts number → HasNumber firsts goal
  recent_has r =
      let same = same_number r.key (key_of goal) r.small small (r.number ∙ is) in
      subst (HasNumber firsts) (ap goal_of same ∙ goal_of-key_of goal) r.known

  pub has_recent : HasNumber firsts goal → IsRecent firsts number
  has_recent has = record {
    key = key_of goal;
    small = small;
    number = sym is;
    known = subst (HasNumber firsts) (sym (goal_of-key_of goal)) has;
  }
