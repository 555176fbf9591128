-- Marks that aren't closed on their line.
use Rattle.std.proofs.Common.{◌≡◌, ℕ, suc, ◌+◌, ◌-◌, Bool, true, false, cond, List, ◌∷◌, drop, Option, Some, None, option_map, refl, sym, ap, subst, ◌∙◌, inl, inr, arith}
use Rattle.std.specs.Prelude.{slice_get}
use Rattle.std.proofs.lemmas.Bool.{cases_lt}
use Rattle.std.proofs.lemmas.List.{drop-drop}
use Rattle.cs_bytes.specs.Places.{has_at}
use Rattle.cs_bytes.proofs.Fronts.{front_got, front_has, has_at-got}
use Rattle.cs_ctext.specs.Marks.{is_quote}
use Rattle.cs_ctext.specs.Scans.{quoted_rest, quoted_size}
use Rattle.cs_ctext.specs.Unclosed.{NoneCloses, StaysOpen}

none_either : (t : Bool) (found : Option ℕ) → found ≡ None → cond t (option_map suc found) None ≡ None
none_either true found e = ap (option_map suc) e
none_either false found e = refl

unclosed_in_front : (mark : ℕ) (text : List ℕ) → quoted_rest mark false text ≡ None → quoted_size (mark ∷ text) ≡ None
unclosed_in_front mark text e = none_either (is_quote mark) (quoted_rest mark false text) e

-- the mark at `at` is closed
pub closed_at : (bytes : List ℕ) (at mark size : ℕ) → slice_get bytes at ≡ Some mark → is_quote mark ≡ true → quoted_rest mark false (drop (at + 1) bytes) ≡ Some size
    → quoted_size (drop at bytes) ≡ Some (size + 1)
closed_at bytes at mark size stands quote e =
    ap quoted_size (front_got bytes at mark stands) ∙ (ap (λ t. cond t (option_map suc (quoted_rest mark false (drop (at + 1) bytes))) None) quote ∙ (ap (option_map suc) e ∙ ap Some (omega arith)))

pub unclosed_at : (bytes : List ℕ) (at mark : ℕ) → has_at bytes at mark ≡ true → quoted_rest mark false (drop (at + 1) bytes) ≡ None → quoted_size (drop at bytes) ≡ None
unclosed_at bytes at mark stands e = ap quoted_size (front_has bytes at mark stands) ∙ unclosed_in_front mark (drop (at + 1) bytes) e

-- neither is an equal mark before its line's end
pub none_closes : (bytes : List ℕ) (at mark end : ℕ) → slice_get bytes at ≡ Some mark → StaysOpen mark (drop (at + 1) bytes) end → NoneCloses mark bytes at (at + 1 + end)
none_closes bytes at mark end stands open_rest i from to here = elim (cases_lt at i) [
  | inl beyond ↦
      let k : ℕ = i - (at + 1) in
      let place : at + 1 + (i - (at + 1)) ≡ i = omega arith in
      let there : has_at (drop (at + 1) bytes) k mark ≡ true = rw (drop-drop, place) here in
      let rest : quoted_rest mark false (drop (k + 1) (drop (at + 1) bytes)) ≡ None = open_rest.others k (omega arith) there in
      let next : at + 1 + (i - (at + 1) + 1) ≡ i + 1 = omega arith in
      unclosed_at bytes i mark here (rw (drop-drop, next) at rest)
  | inr not_beyond ↦
      let same : i ≡ at = omega arith in
      subst (λ n. quoted_size (drop n bytes) ≡ None) (sym same) (unclosed_at bytes at mark (has_at-got bytes at mark stands) open_rest.unclosed)
]
