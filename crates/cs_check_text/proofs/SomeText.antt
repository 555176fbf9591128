-- That a manifest has no text of its check cannot be: where no line is the first with a fault, it passes.
use Rattle.std.proofs.Common.{◌≡◌, ◌≤◌, ◌+◌, ℕ, zero, suc, List, [], ◌∷◌, ◌++◌, Option, None, Some, length, map, refl, sym, ◌∙◌, subst, inl, inr, append_assoc, append-nil, arith}
use Rattle.std.proofs.lemmas.Bool.{cases_lt}
use Rattle.cs_check.specs.declared.checking.pass.Outcome.TheVariants.{No, Yes}
use Rattle.cs_check.specs.declared.passing.fault.ClaimFault.{ClaimFault}
use Rattle.cs_check.specs.declared.passing.fault.ClaimFault.TheVariants.{Form}
use Rattle.cs_check.specs.Checking.Told.{checked_by}
use Rattle.cs_check.specs.Passing.Above.{edits, goals_in}
use Rattle.cs_check.specs.Passing.Faults.{Checked, HasFault, HasForm}
use Rattle.cs_check.specs.Passing.First.{IsClean, IsFaultless, IsFirstFault}
use Rattle.cs_check.specs.Passing.Passing.{Fails, Passes, number}
use Rattle.cs_check.proofs.OnPassing.First.{clean_none, clean_push, first_here}
use Rattle.cs_io.specs.Asked.{IsNotWithout}
use Rattle.cs_lines.specs.Lines.Pieces.{ended, lines_of}
use Rattle.cs_scanner.specs.Scan.Scan.{Scanning}
use Rattle.cs_yacc.specs.Reading.File.{File}
use Rattle.cs_check_text.specs.Text.{IsCheckText, no_line, yes_line}

-- where none of them is the lowest, there is no fault of a line
none_lowest : (P : ClaimFault → Type 0) → ((g : ClaimFault) → P g → ((h : ClaimFault) → P h → number g ≤ number h) → ⊥) → (n : ℕ) (g : ClaimFault) → number g ≤ n → P g → ⊥
none_lowest P none zero g low has = none g has (λ h also. omega (arith, low))
none_lowest P none (suc n) g low has =
    none g has (λ h also. elim (cases_lt (number h) (number g)) [ inl less ↦ absurd (none_lowest P none n h (omega (arith, low, less)) also) | inr most ↦ most ])

module _ (c : Checked) (pieces : List (Option (List ℕ))) (none : (n : ℕ) (f : ClaimFault) → IsFirstFault (HasFault c) number pieces n f → ⊥) where
  faultless : (above : List (Option (List ℕ))) (line : Option (List ℕ)) (rest : List (Option (List ℕ))) → pieces ≡ above ++ line ∷ rest → IsClean (HasFault c) above → IsFaultless (HasFault c) above line
  faultless above line rest split clean f has =
      none_lowest (λ g. HasFault c above line g)
      (λ g is least. none (length above + 1) g (first_here (HasFault c) number pieces above line rest (length above + 1) g split refl clean (record { has = is; lowest = least })))
      (number f) f (omega arith) has

  -- line by line, none has a fault
  all_clean : (above rest : List (Option (List ℕ))) → pieces ≡ above ++ rest → IsClean (HasFault c) above → IsClean (HasFault c) pieces
  all_clean above [] split clean = subst (λ (ps : List (Option (List ℕ))). IsClean (HasFault c) ps) (sym (split ∙ append-nil above)) clean
  all_clean above (line ∷ rest) split clean =
      all_clean (above ++ line ∷ []) rest (split ∙ sym (append_assoc above (line ∷ []) rest)) (clean_push (HasFault c) above line clean (faultless above line rest split clean))

none_fails : (c : Checked) (manifest : List ℕ) → ((n : ℕ) (f : ClaimFault) → Fails c manifest n f → ⊥) → Passes c manifest
none_fails c manifest none = all_clean c (ended manifest) none [] (ended manifest) refl (clean_none (HasFault c))

pub some_text : (file : File) (s : Scanning) (manifest : List ℕ) → IsNotWithout (IsCheckText file s manifest)
some_text file s manifest none = passes (map Some (lines_of manifest)) None [] refl Form says_yes
  where
    c : Checked
    c = checked_by file s

    passes : Passes c manifest
    passes = none_fails c manifest (λ n f fails. none (no_line n f) (record { outcome = No n f; is = fails; line = refl }))

    says_yes : HasForm c.file.grammar (map Some (lines_of manifest)) None → ⊥
    says_yes form =
        none (yes_line (length (goals_in form.0)) (length (edits form.0)))
        (record { outcome = Yes (length (goals_in form.0)) (length (edits form.0)); is = (passes, record { lines = form.0; said = form.1; are_goals = refl; are_negatives = refl }); line = refl })
