-- The longest match, one byte after another.
use Rattle.std.proofs.Common.{◌≡◌, ℕ, zero, suc, ◌+◌, ◌≤◌, List, [], ◌∷◌, ◌++◌, ◌⊎◌, inl, inr, Some, None, refl, ap, subst, arith, length, take}
use Rattle.std.specs.Prelude.{Option}
use Rattle.std.proofs.lemmas.Bool.{cases_lt}
use Rattle.cs_pattern_parts.specs.Tree.Pattern.{Regex}
use Rattle.cs_scanner.specs.Automaton.Machine.{MatchesRule, IsFirstRule, IsBegun}
use Rattle.cs_scanner.specs.Scan.Scan.{IsLongest}
use Rattle.cs_scanner.specs.Scan.Best.{IsBest}

-- a shorter front, and what is left of a longer one
front_more : {X : Type 0} (i n : ℕ) (xs : List X) → i ≤ n → (rest : List X) × (take n xs ≡ take i xs ++ rest)
front_more zero n xs le = (take n xs, refl)
front_more (suc i) zero xs le = absurd (omega (arith, le))
front_more (suc i) (suc n) [] le = ([], refl)
front_more (suc i) (suc n) (x ∷ xs) le = let r = front_more i n xs (omega (arith, le)) in (r.0, ap (λ t. x ∷ t) r.1)

module _ (rs : List Regex) (text : List ℕ) where
  -- a rule matches the longer front
  pub best_now : (i rule : ℕ) → IsFirstRule rs (take (i + 1) text) (Some rule) → IsBest rs text (i + 1) (Some (rule, i + 1))
  best_now i rule f = record { some = omega arith; within = omega arith; matches = f.0; longest = λ other n le m. le; lowest = f.1 }

  one_more : (i n : ℕ) → n ≤ i + 1 → (n ≤ i) ⊎ (n ≡ i + 1)
  one_more i n le = elim (cases_lt i n) [ inl above ↦ inr (omega arith) | inr below ↦ inl below ]

  -- none matches it
  pub best_kept : (i : ℕ) (best : Option (ℕ × ℕ)) → IsBest rs text i best → IsFirstRule rs (take (i + 1) text) None → IsBest rs text (i + 1) best
  best_kept i None b f = λ rule n some le m.
      elim (one_more i n le) [ inl below ↦ b rule n some below m | inr same ↦ f rule (subst (λ k. MatchesRule rs rule (take k text)) same m) ]
  best_kept i (Some s) b f =
      record {
        some = b.some;
        within = omega (arith, b.within);
        matches = b.matches;
        longest = λ other n le m. elim (one_more i n le) [ inl below ↦ b.longest other n below m | inr same ↦ absurd (f other (subst (λ k. MatchesRule rs other (take k text)) same m)) ];
        lowest = b.lowest;
      }

  -- no rule goes on beyond the longer front
  not_longer : (i rule n : ℕ) → (IsBegun rs (take (i + 1) text) → ⊥) → MatchesRule rs rule (take n text) → n ≤ i
  not_longer i rule n stop m =
      elim (cases_lt i n) [
        | inl above ↦ let r = front_more (i + 1) n text (omega arith) in absurd (stop (rule, r.0, subst (λ t. MatchesRule rs rule t) r.1 m))
        | inr below ↦ below
      ]

  pub best_stops : (i : ℕ) (best : Option (ℕ × ℕ)) → i ≤ length text → IsBest rs text i best → (IsBegun rs (take (i + 1) text) → ⊥) → IsLongest rs text best
  best_stops i None le b stop = λ rule n some within m. b rule n some (not_longer i rule n stop m) m
  best_stops i (Some s) le b stop =
      record { some = b.some; within = omega (arith, b.within); matches = b.matches; longest = λ other n within m. b.longest other n (not_longer i other n stop m) m; lowest = b.lowest }

  pub best_ends : (i : ℕ) (best : Option (ℕ × ℕ)) → i ≡ length text → IsBest rs text i best → IsLongest rs text best
  best_ends i None e b = λ rule n some within m. b rule n some (omega (arith, e, within)) m
  best_ends i (Some s) e b =
      record { some = b.some; within = omega (arith, b.within, e); matches = b.matches; longest = λ other n within m. b.longest other n (omega (arith, e, within)) m; lowest = b.lowest }
