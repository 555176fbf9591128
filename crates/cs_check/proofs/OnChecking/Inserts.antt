-- One number more in a set, in a table of sets, and in the sets of marks.
use Rattle.std.proofs.Common.{◌≡◌, ◌≢◌, ℕ, zero, suc, ◌+◌, ◌<◌, Bool, false, List, [], length, get_or, set, sym, ap, ◌∙◌, ⊎_elim, inl, inr, ◌⊎◌, ◌↔◌, arith, get_or-set_other, get_or-set_same}
use Rattle.std.proofs.lemmas.Bool.{cases_eq}
use Rattle.std.proofs.lemmas.List.{length-set}
use Rattle.std.proofs.lemmas.List.Elements.{All-set}
use Rattle.cs_grammar.specs.Entries.{entry_or}
use Rattle.cs_closed.specs.Closed.Sets.{IsWith, IsPair}
use Rattle.cs_check.specs.Checking.Claims.{IsTable}

-- the table has the pair of a number and a second one, too
abbrev pub IsWithPair : ℕ → ℕ → List (List Bool) → List (List Bool) → Type 0
IsWithPair number second old new = (n t : ℕ) → IsPair new n t ↔ (IsPair old n t ⊎ ((n ≡ number) × (t ≡ second)))

module _ (old : List (List Bool)) (k : ℕ) (row : List Bool) (within : k < length old) (number : ℕ) (with : IsWith (get_or old k []) number row) where
  other_row : (n j : ℕ) → j ≢ k → entry_or (get_or (set old k row) j []) n false ≡ entry_or (get_or old j []) n false
  other_row n j other = ap (λ (r : List Bool). entry_or r n false) (get_or-set_other old k j row [] other)

  this_row : (n j : ℕ) → j ≡ k → entry_or (get_or (set old k row) j []) n false ≡ entry_or row n false
  this_row n j here =
      ap (λ (i : ℕ). entry_or (get_or (set old k row) i []) n false) here
      ∙ ap (λ (r : List Bool). entry_or r n false) (get_or-set_same old k row [] within)

  old_row : (n j : ℕ) → j ≡ k → entry_or (get_or old j []) n false ≡ entry_or (get_or old k []) n false
  old_row n j here = ap (λ (i : ℕ). entry_or (get_or old i []) n false) here

  pub with_pair : (second : ℕ) → second ≡ k + 1 → IsWithPair number second old (set old k row)
  with_pair second is n zero = (λ h. inl h, λ h. ⊎_elim (λ a. a) (λ b. absurd (let z = b.1 in omega arith)) h)
  with_pair second is n (suc j) =
      ⊎_elim
      (λ (here : j ≡ k). (
        λ h. ⊎_elim (λ a. inl (old_row n j here ∙ a)) (λ b. inr (b, omega arith)) ((with n).0 (sym (this_row n j here) ∙ h)),
        λ h. this_row n j here ∙ (with n).1 (⊎_elim (λ a. inl (sym (old_row n j here) ∙ a)) (λ b. inr b.0) h),
      ))
      (λ (other : j ≢ k). (
        λ h. inl (sym (other_row n j other) ∙ h),
        λ h. ⊎_elim (λ a. other_row n j other ∙ a) (λ b. absurd (other (let e = b.1 in omega arith))) h,
      ))
      (cases_eq j k)

pub set_table : (rows last k : ℕ) (old : List (List Bool)) (row : List Bool) → IsTable rows last old → length row ≡ last → IsTable rows last (set old k row)
set_table rows last k old row is long = record {
  rows = length-set old k row ∙ is.rows;
  each = All-set (λ (s : List Bool). length s ≡ last) old k row long is.each;
}
