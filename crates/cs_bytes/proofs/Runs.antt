-- Longest runs of bytes that pass.
use Rattle.std.proofs.Common.{◌≡◌, ℕ, zero, suc, ◌+◌, ◌<◌, ◌≤◌, Bool, true, false, cond, ◌&&◌, List, [], ◌∷◌, ◌++◌, length, take, drop, refl, sym, arith, one-add}
use Rattle.std.specs.Prelude.{IsTrue, IsSomeAnd, slice_get}
use Rattle.std.specs.List.{prefix_len, list_all}
use Rattle.std.proofs.lemmas.List.Sums.{prefix_len-le-length}
use Rattle.cs_bytes.specs.Places.{front, IsRun}
use Rattle.cs_bytes.proofs.Fronts.{and_true}

-- bytes that pass, and one that doesn't behind them, are the longest run
pub run-stops : (p : ℕ → Bool) (run : List ℕ) (c : ℕ) (rest : List ℕ) → list_all p run ≡ true → p c ≡ false → prefix_len p (run ++ c ∷ rest) ≡ length run
run-stops p [] c rest all stop = rw stop refl
run-stops p (d ∷ run) c rest all stop =
    let both = and_true (p d) (list_all p run) all in
    rw (both.0, run-stops p run c rest both.1 stop) (one-add (length run))

-- ---- the bytes of a run pass

pass_step : (p : ℕ → Bool) (b n : ℕ) (text : List ℕ) (t : Bool) → p b ≡ t → suc n ≤ cond t (1 + prefix_len p text) 0
    → (n ≤ prefix_len p text → list_all p (take n text) ≡ true) → (p b && list_all p (take n text)) ≡ true
pass_step p b n text true e le rest = rw e (rest (omega arith))
pass_step p b n text false e le rest = absurd (omega arith)

pub run-passes : (p : ℕ → Bool) (n : ℕ) (text : List ℕ) → n ≤ prefix_len p text → list_all p (take n text) ≡ true
run-passes p zero text le = refl
run-passes p (suc n) [] le = refl
run-passes p (suc n) (b ∷ text) le = pass_step p b n text (p b) refl le (run-passes p n text)

-- where the first byte passes, the run has a byte
pub run_some : (p : ℕ → Bool) (text : List ℕ) → IsSomeAnd (slice_get text 0) (λ b. IsTrue (p b)) → 0 < prefix_len p text
run_some p [] h = absurd h
run_some p (b ∷ text) h = rw h (omega arith)

-- ---- the byte behind a run doesn't pass

ends_step : (p : ℕ → Bool) (b : ℕ) (text : List ℕ) (t : Bool) → p b ≡ t → front p (drop (prefix_len p text) text) ≡ false
    → front p (drop (cond t (1 + prefix_len p text) 0) (b ∷ text)) ≡ false
ends_step p b text true e rest = rw one-add rest
ends_step p b text false e rest = e

pub run-ends : (p : ℕ → Bool) (text : List ℕ) → front p (drop (prefix_len p text) text) ≡ false
run-ends p [] = refl
run-ends p (b ∷ text) = ends_step p b text (p b) refl (run-ends p text)

pub IsRun-prefix_len : (p : ℕ → Bool) (text : List ℕ) → IsRun p text (prefix_len p text)
IsRun-prefix_len p text = record {
  within = prefix_len-le-length p text;
  run = run-passes p (prefix_len p text) text (omega arith);
  ends = run-ends p text;
}

pub run_is : (p : ℕ → Bool) (text : List ℕ) (n : ℕ) → IsRun p text n → n ≡ prefix_len p text
run_is p [] n r = omega (arith, r.within)
run_is p (b ∷ text) zero r = rw r.ends refl
run_is p (b ∷ text) (suc n) r =
    let both = and_true (p b) (list_all p (take n text)) r.run in
    let shorter : IsRun p text n = record { within = omega (arith, r.within); run = both.1; ends = r.ends } in
    rw (both.0, ← run_is p text n shorter) (sym (one-add n))
