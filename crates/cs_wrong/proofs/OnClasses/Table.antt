-- The table of lists that were met.
use Rattle.std.proofs.Common.{◌≡◌, ◌||◌, ℕ, Bool, true, false, cond, List, [], ◌∷◌, ◌++◌, refl, sym, ap, ◌∙◌, subst}
use Rattle.std.specs.Prelude.{Option, Some, is_some}
use Rattle.std.specs.Global.{Vec}
use Rattle.std.specs.List.{Contains, list_any}
use Rattle.std.specs.Map.{lookup}
use Rattle.std.specs.Str.{bytes_eq}
use Rattle.std.proofs.lemmas.List.{map_push}
use Rattle.std.proofs.lemmas.List.Folds.{Any-from_list_any, list_any-from_Any}
use Rattle.std.proofs.lemmas.Slice.Eq.{bytes_eq-Decides}
use Rattle.cs_wrong.specs.Classes.Met.{lists_in}

abbrev pub has : List ℕ → List (List ℕ) → Bool
has tokens list = list_any (λ y. bytes_eq tokens y) list

pub contains_from_has : (tokens : List ℕ) (list : List (List ℕ)) → has tokens list ≡ true → Contains list tokens
contains_from_has tokens list h =
    let a = Any-from_list_any (λ y. bytes_eq tokens y) list h in
    let same : tokens ≡ a.1 = (bytes_eq-Decides tokens a.1).0 a.4 in
    subst (λ (t : List ℕ). Contains list t) (sym same) (a.0, a.2, a.3)

pub has_from_contains : (tokens : List ℕ) (list : List (List ℕ)) → Contains list tokens → has tokens list ≡ true
has_from_contains tokens list h = list_any-from_Any (λ y. bytes_eq tokens y) list (h.0, tokens, h.1, h.2, (bytes_eq-Decides tokens tokens).1 refl)

module _ (tokens : List ℕ) where
  found_step : (b : Bool) (v : Unit {0}) (rest : Option (Unit {0})) (more : Bool) → is_some rest ≡ more → is_some (cond b (Some v) rest) ≡ (b || more)
  found_step true v rest more e = refl
  found_step false v rest more e = e

  -- a look-up tells whether the list is there
  pub is_some-lookup : (entries : List (Vec ℕ × Unit {0})) → is_some (lookup (λ (k : Vec ℕ). bytes_eq tokens k.items) entries) ≡ has tokens (lists_in entries)
  is_some-lookup [] = refl
  is_some-lookup (e ∷ es) =
      found_step (bytes_eq tokens e.0.items) e.1 (lookup (λ (k : Vec ℕ). bytes_eq tokens k.items) es) (has tokens (lists_in es)) (is_some-lookup es)

-- one entry more
pub lists_in-push : (entries : List (Vec ℕ × Unit {0})) (v : Vec ℕ) (u : Unit {0}) (tokens : List ℕ) → v.items ≡ tokens → lists_in (entries ++ (v, u) ∷ []) ≡ lists_in entries ++ tokens ∷ []
lists_in-push entries v u tokens e = map_push (λ (x : Vec ℕ × Unit {0}). x.0.items) entries (v, u) ∙ ap (λ (t : List ℕ). lists_in entries ++ t ∷ []) e
