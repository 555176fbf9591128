-- A set that is added once.
use Rattle.std.proofs.Common.{◌≡◌, ℕ, zero, suc, Bool, true, false, List, [], ◌∷◌, ◌++◌, inl, inr, Some, refl, sym, ap, ◌∙◌, Vec, Global}
use Rattle.std.specs.Prelude.{◌||◌, if◌then◌else◌, slice_get, nat_eq}
use Rattle.std.specs.Cmp.Lexicographic.{pointwise, same_text, other_text}
use Rattle.std.specs.List.{list_any}
use Rattle.std.proofs.lemmas.Bool.{false≢true}
use Rattle.std.proofs.lemmas.Option.{slice_get-map}
use Rattle.cs_scanner.specs.Automaton.Sets.{lists, AddsOnce}

pub lists_push : (vs : List (Vec ℕ Global)) (v : Vec ℕ Global) → lists (vs ++ v ∷ []) ≡ lists vs ++ v.items ∷ []
lists_push [] v = refl
lists_push (w ∷ vs) v = let rest = lists_push vs v in ap (λ t. w.items ∷ t) rest

abbrev same : Vec ℕ Global → Vec ℕ Global → Bool
same v w = pointwise nat_eq v.items w.items

or_false : (a b : Bool) → a || b ≡ false → (a ≡ false) × (b ≡ false)
or_false true b e = absurd (false≢true (sym e))
or_false false b e = (refl, e)

not_any : (ks : List (Vec ℕ Global)) (v : Vec ℕ Global) → list_any (same v) ks ≡ false → (k : ℕ) → slice_get (lists ks) k ≡ Some v.items → ⊥
not_any [] v h k e = absurd cc
not_any (w ∷ ks) v h zero e =
    let two = or_false (same v w) (list_any (same v) ks) h in
    let is : v.items ≡ w.items = cc in
    other_text v.items w.items (sym two.0) is
not_any (w ∷ ks) v h (suc k) e = not_any ks v (or_false (same v w) (list_any (same v) ks) h).1 k e

pub stored_there : (ks : List (Vec ℕ Global)) (v w : Vec ℕ Global) (k : ℕ) → slice_get ks k ≡ Some w → same v w ≡ true → slice_get (lists ks) k ≡ Some v.items
stored_there ks v w k at e =
    let mapped = slice_get-map (λ (t : Vec ℕ Global). t.items) ks k in
    let is = same_text v.items w.items (sym e) in
    let there : slice_get (lists ks) k ≡ Some w.items = cc in
    there ∙ ap Some (sym is)

pub added_once : (ks new : List (Vec ℕ Global)) (v : Vec ℕ Global) (b : Bool) → b ≡ list_any (same v) ks → new ≡ (if b then ks else ks ++ v ∷ []) → AddsOnce (lists ks) (lists new) v.items
added_once ks new v true e is = inl (ap lists is)
added_once ks new v false e is = inr (ap lists is ∙ lists_push ks v, not_any ks v (sym e))
