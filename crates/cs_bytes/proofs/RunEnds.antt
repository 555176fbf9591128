-- The end of a longest run, looked for once.
use Rattle.std.proofs.Common.{◌≡◌, ℕ, zero, suc, ◌+◌, ◌-◌, ◌≤◌, Bool, true, false, List, [], ◌∷◌, drop, refl, sym, ap, ◌∙◌, arith}
use Rattle.std.specs.List.{prefix_len}
use Rattle.std.proofs.lemmas.List.{drop-drop}
use Rattle.cs_bytes.specs.Places.{run_end, EndsRun}

module _ (p : ℕ → Bool) where
  -- what is left of a run behind some of its bytes is the run from there
  skip_some : (xs : List ℕ) (k : ℕ) → k ≤ prefix_len p xs → prefix_len p xs ≡ k + prefix_len p (drop k xs)
  skip_some xs zero le = sym (omega arith)
  skip_some [] (suc k) le = absurd (omega arith)
  skip_some (x ∷ xs) (suc k) le = by_test (skip_some xs k) (p x) refl
    where
      by_test : (k ≤ prefix_len p xs → prefix_len p xs ≡ k + prefix_len p (drop k xs)) → (b : Bool) → p x ≡ b → prefix_len p (x ∷ xs) ≡ suc k + prefix_len p (drop k xs)
      by_test more false e = let zero_there : prefix_len p (x ∷ xs) ≡ 0 = rw e refl in absurd (omega arith)
      by_test more true e =
          let one_more : prefix_len p (x ∷ xs) ≡ 1 + prefix_len p xs = rw e refl in
          omega (arith, one_more, more (omega (arith, one_more)))

  -- the run from an earlier offset on ends where that from this offset on does, if it reaches it
  pub end_stays : (text : List ℕ) (from known : ℕ) → EndsRun p text from known → from ≤ known → known ≡ run_end p text from
  end_stays text from known h le =
      let k : ℕ = from - h.start in
      let skipped : prefix_len p (drop h.start text) ≡ k + prefix_len p (drop k (drop h.start text)) = skip_some (drop h.start text) k (omega (arith, h.is, h.before)) in
      let all : h.start + k ≡ from = omega (arith, h.before) in
      let there : drop k (drop h.start text) ≡ drop from text = drop-drop k h.start text ∙ ap (λ (i : ℕ). drop i text) all in
      omega (arith, h.is, skipped, ap (prefix_len p) there, h.before)

  -- how much of the text behind `at` stands before the end, with `skip` bytes of it left out
  pub end_left : (text rest : List ℕ) (at skip end : ℕ) → rest ≡ drop at text → end ≡ run_end p text (at + skip) → end - (at + skip) ≡ prefix_len p (drop skip rest)
  end_left text rest at skip end e f =
      let there : drop skip rest ≡ drop (at + skip) text = ap (drop skip) e ∙ drop-drop skip at text in
      omega (arith, f, ap (prefix_len p) there)

  pub end_behind : (text : List ℕ) (from behind known : ℕ) → known ≡ run_end p text from → from ≤ behind → EndsRun p text behind known
  end_behind text from behind known e le = record { start = from; before = le; is = e }
