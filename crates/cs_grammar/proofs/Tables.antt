-- Tables by number, after a write and past their end.
use Rattle.std.proofs.Common.{◌≡◌, ◌≢◌, ℕ, zero, suc, ◌-◌, ◌<◌, List, length, get_or, refl, ap, ◌∙◌, ⊎_elim, arith, replicate}
use Rattle.std.proofs.Math.ListN.{set}
use Rattle.std.proofs.lemmas.Bool.{cases_lt}
use Rattle.std.proofs.lemmas.List.{get_or-set_same, get_or-set_other, length-replicate, get_or-replicate, get_or_past}
use Rattle.cs_grammar.specs.Grammar.{IsNumberOf}
use Rattle.cs_grammar.specs.Entries.{entry_or}

module _ {X : Type 0} (none : X) where
  -- what the table says of a number stands at the place before it
  pub entry_or-at : (table : List X) (n : ℕ) → 0 < n → entry_or table n none ≡ get_or table (n - 1) none
  entry_or-at table zero h = absurd (omega arith)
  entry_or-at table (suc n) h = let e : n ≡ suc n - 1 = omega arith in ap (λ k. get_or table k none) e

  -- what a table says of its numbers after a write
  pub entry_or-set_same : (table : List X) (n : ℕ) (x : X) → IsNumberOf (length table) n → entry_or (set table (n - 1) x) n none ≡ x
  entry_or-set_same table n x h =
      let within : n - 1 < length table = omega arith in
      entry_or-at (set table (n - 1) x) n h.0 ∙ get_or-set_same table (n - 1) x none within

  pub entry_or-set_other : (table : List X) (n m : ℕ) (x : X) → 0 < n → (m ≡ n → ⊥) → entry_or (set table (n - 1) x) m none ≡ entry_or table m none
  entry_or-set_other table n zero x above ne = refl
  entry_or-set_other table n (suc m) x above ne =
      let other : m ≢ n - 1 = λ e. ne (omega arith) in
      get_or-set_other table (n - 1) m x none other

  -- what is said of a number past the end of a table
  pub entry_or_past : (table : List X) (n : ℕ) → (IsNumberOf (length table) n → ⊥) → entry_or table n none ≡ none
  entry_or_past table zero h = refl
  entry_or_past table (suc n) h =
      ⊎_elim
      (λ within. absurd (h (omega arith, omega (arith, within))))
      (λ not_within. get_or_past table n none not_within)
      (cases_lt n (length table))

  -- and of each number where nothing is said of any
  pub entry_or-replicate : (many n : ℕ) → entry_or (replicate many none) n none ≡ none
  entry_or-replicate many zero = refl
  entry_or-replicate many (suc n) =
      ⊎_elim
      (λ within. get_or-replicate many n none none within)
      (λ past. get_or_past (replicate many none) n none (omega (arith, length-replicate many none)))
      (cases_lt n many)
