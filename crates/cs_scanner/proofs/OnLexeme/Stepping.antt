-- Rows of steps, byte by byte.
use Rattle.std.proofs.Common.{◌≡◌, ℕ, ◌+◌, ◌<◌, ◌≤◌, arith, List, [], ◌∷◌, ◌++◌, length, sym, ◌∙◌, ap, subst, inl, inr, refl, ⊎_elim, Some, None, length-append}
use Rattle.std.specs.Prelude.{slice_get}
use Rattle.std.proofs.lemmas.Bool.{cases_lt}
use Rattle.std.proofs.lemmas.Option.{slice_get-get_or}
use Rattle.cs_scanner.specs.Automaton.Machine.{Machine}
use Rattle.cs_scanner.specs.declared.lexeme.steps.Step.{Step}
use Rattle.cs_scanner.specs.Lexeme.Rank.{rank}
use Rattle.cs_scanner.specs.Lexeme.Bytes.{AreByRank}
use Rattle.cs_scanner.specs.Lexeme.Steps.{Goes, IsStep, HasStep, IsCovered, IsRow, IsRowUpTo, LeadsTo, PutsStep, AreNoted, step_rank, AreFirstRows, AreRowsUpTo}
use Rattle.cs_scanner.proofs.OnLexeme.Lists.{at_pushed, still_at, at_end, rises_pushed}
use Rattle.cs_scanner.proofs.OnLexeme.Ranking.{rank_within}

pub no_row : (m : Machine) (state : ℕ) (bytes : List ℕ) → IsRowUpTo m state bytes 0 []
no_row m state bytes = record { steps = λ i step at. absurd (cc); rises = λ i j x y less at other. absurd (cc); from = λ i step at. absurd (cc); covered = λ j byte less at. absurd (omega arith) }

-- one more byte is covered by the same row
one_more : (m : Machine) (state : ℕ) (bytes : List ℕ) (place b : ℕ) (row : List Step) → slice_get bytes place ≡ Some b → IsRowUpTo m state bytes place row → IsCovered m state row b → IsRowUpTo m state bytes (place + 1) row
one_more m state bytes place b row here r new = record {
  steps = r.steps;
  rises = r.rises;
  from = λ i step at. let f = r.from i step at in (f.0, omega (arith, f.1), f.2);
  covered = λ j byte less at. ⊎_elim
      (λ (under : j < place). r.covered j byte under at)
      (λ (over : place ≤ j).
      let same : j ≡ place = omega arith in
      let e : byte ≡ b = cc in
      let P : ℕ → Type 0 = λ c. IsCovered m state row c in subst P (sym e) new)
      (cases_lt j place);
}

pub row_none : (m : Machine) (state : ℕ) (bytes : List ℕ) (place b : ℕ) (row : List Step) → slice_get bytes place ≡ Some b → Goes m state b None → IsRowUpTo m state bytes place row → IsRowUpTo m state bytes (place + 1) row
row_none m state bytes place b row here goes r = one_more m state bytes place b row here r (inl goes)

-- steps stay where more are put behind
covered_still : (m : Machine) (state : ℕ) (row : List Step) (step : Step) (b : ℕ) → IsCovered m state row b → IsCovered m state (row ++ step ∷ []) b
covered_still m state row step b c = ⊎_elim
    (λ (none : Goes m state b None). inl none)
    (λ (some : (to : ℕ) × Goes m state b (Some to) × HasStep row b to).
    let h = some.2 in
    inr (some.0, some.1, record { place = h.place; step = h.step; at = still_at row step h.step h.place h.at; leads = h.leads; low = h.low }))
    c

-- a step that was put comes from a byte in front, so its rank is lower
lower_rank : (m : Machine) (state : ℕ) (bytes : List ℕ) (place b : ℕ) (row : List Step) → AreByRank 2048 bytes → slice_get bytes place ≡ Some b → IsRowUpTo m state bytes place row → (i : ℕ) (step : Step) → slice_get row i ≡ Some step → rank step.byte < rank b
lower_rank m state bytes place b row by_rank here r i step at =
    let f = r.from i step at in by_rank.rises f.0 place step.byte b f.1 f.2 here

row_pushed : (m : Machine) (state : ℕ) (bytes : List ℕ) (place b to : ℕ) (row : List Step) → AreByRank 2048 bytes → slice_get bytes place ≡ Some b → b < 256 → to < length m.sets → Goes m state b (Some to) → IsRowUpTo m state bytes place row → IsRowUpTo m state bytes (place + 1) (row ++ record { byte = b; to = to } ∷ [])
row_pushed m state bytes place b to row by_rank here fits within goes r =
    let step : Step = record { byte = b; to = to } in
    record {
      steps = λ i s at. ⊎_elim
          (λ (old : slice_get row i ≡ Some s). r.steps i s old)
          (λ (new : (i ≡ length row) × (s ≡ step)). let P : Step → Type 0 = λ t. IsStep m state t in subst P (sym new.1) (record { byte = fits; within = within; goes = goes }))
          (at_pushed row step s i at);
      rises = rises_pushed step_rank row step r.rises (λ i s at. lower_rank m state bytes place b row by_rank here r i s at);
      from = λ i s at. ⊎_elim
          (λ (old : slice_get row i ≡ Some s). let f = r.from i s old in (f.0, omega (arith, f.1), f.2))
          (λ (new : (i ≡ length row) × (s ≡ step)). let P : Step → Type 0 = λ t. (j : ℕ) × (j < place + 1) × (slice_get bytes j ≡ Some t.byte) in subst P (sym new.1) (place, omega arith, here))
          (at_pushed row step s i at);
      covered = λ j byte less at. ⊎_elim
          (λ (under : j < place). covered_still m state row step byte (r.covered j byte under at))
          (λ (over : place ≤ j).
          let same : j ≡ place = omega arith in
          let e : byte ≡ b = cc in
          let P : ℕ → Type 0 = λ c. IsCovered m state (row ++ step ∷ []) c in
          subst P (sym e) (inr (to, goes, record { place = length row; step = step; at = at_end row step; leads = refl; low = omega arith })))
          (cases_lt j place);
    }

pub row_put : (m : Machine) (state : ℕ) (bytes : List ℕ) (place b to : ℕ) (row new : List Step) → AreByRank 2048 bytes → slice_get bytes place ≡ Some b → b < 256 → to < length m.sets → Goes m state b (Some to) → PutsStep row (record { byte = b; to = to }) new → IsRowUpTo m state bytes place row → IsRowUpTo m state bytes (place + 1) new
row_put m state bytes place b to row new by_rank here fits within goes puts r =
    let step : Step = record { byte = b; to = to } in
    ⊎_elim
    (λ (same : LeadsTo row to × (new ≡ row)).
    let it = same.0 in
    let low = lower_rank m state bytes place b row by_rank here r it.0 it.1 it.2 in
    let has : HasStep row b to = record { place = it.0; step = it.1; at = it.2; leads = it.3; low = omega (arith, low) } in
    let P : List Step → Type 0 = λ t. IsRowUpTo m state bytes (place + 1) t in
    subst P (sym same.1) (one_more m state bytes place b row here r (inr (to, goes, has))))
    (λ (more : new ≡ row ++ step ∷ []).
    let P : List Step → Type 0 = λ t. IsRowUpTo m state bytes (place + 1) t in
    subst P (sym more) (row_pushed m state bytes place b to row by_rank here fits within goes r))
    puts

-- all bytes are covered at the end
pub row_done : (m : Machine) (state : ℕ) (bytes : List ℕ) (place : ℕ) (row : List Step) → AreByRank 2048 bytes → length bytes ≤ place → IsRowUpTo m state bytes place row → IsRow m state row
row_done m state bytes place row by_rank whole r = record {
  steps = r.steps;
  rises = r.rises;
  covered = λ byte fits.
      let it = by_rank.all byte fits (rank_within byte fits) in
      let at : slice_get bytes it.0 ≡ Some byte = slice_get-get_or bytes it.0 byte it.1 ∙ ap Some it.2 in
      r.covered it.0 byte (omega (arith, it.1)) at;
}

pub row_more : (m : Machine) (rows : List (List Step)) (row : List Step) → AreFirstRows m rows → IsRow m (length rows) row → AreFirstRows m (rows ++ row ∷ [])
row_more m rows row first new state other at = ⊎_elim
    (λ (old : slice_get rows state ≡ Some other). first state other old)
    (λ (last : (state ≡ length rows) × (other ≡ row)).
    let P : ℕ → Type 0 = λ k. IsRow m k other in
    let Q : List Step → Type 0 = λ t. IsRow m (length rows) t in
    subst P (sym last.0) (subst Q (sym last.1) new))
    (at_pushed rows row other state at)

pub first_row : (m : Machine) → AreRowsUpTo m 0 []
first_row m = record { all = refl; each = λ state row at. absurd (cc) }

pub next_row : (m : Machine) (state : ℕ) (rows : List (List Step)) (row : List Step) → AreRowsUpTo m state rows → IsRow m state row → AreRowsUpTo m (state + 1) (rows ++ row ∷ [])
next_row m state rows row r new = record {
  all = omega (arith, length-append rows (row ∷ []), r.all);
  each = let P : ℕ → Type 0 = λ k. IsRow m k row in row_more m rows row r.each (subst P (sym r.all) new);
}

-- ---- the noted places

pub noted_none : (count : ℕ) (places : List ℕ) → length places ≡ count → AreNoted count [] places
noted_none count places all = record { all = all; told = λ place step at. absurd (cc) }
