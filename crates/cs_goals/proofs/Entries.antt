-- The entries of a list, one after another.
use Rattle.std.proofs.Common.{◌≡◌, ℕ, ◌+◌, ◌<◌, List, [], ◌∷◌, drop, length, get_or, sym, ◌∙◌, ⊎_elim}
use Rattle.std.proofs.lemmas.Bool.{cases_lt}
use Rattle.std.proofs.lemmas.List.{drop_more, drop_all}

-- the first entry of what is left of a list
pub record Reads (rules : List ℕ) (at r : ℕ) (rest : List ℕ) : Type 0 where
  pub within : at < length rules
  pub entry : get_or rules at 0 ≡ r
  pub after : drop (at + 1) rules ≡ rest

pub reads : (rules : List ℕ) (at r : ℕ) (rest : List ℕ) → drop at rules ≡ r ∷ rest → Reads rules at r rest
reads rules at r rest e =
    ⊎_elim
    (λ within.
    let parts : get_or rules at 0 ∷ drop (at + 1) rules ≡ r ∷ rest = sym (drop_more rules at 0 within) ∙ e in
    record { within = within; entry = cc; after = cc })
    (λ past. let none : drop at rules ≡ [] = drop_all at rules past in absurd cc)
    (cases_lt at (length rules))
