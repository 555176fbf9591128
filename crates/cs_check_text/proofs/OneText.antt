-- A manifest has one text of its check, which says no exactly where some line has a fault.
use Rattle.std.proofs.Common.{◌≡◌, ◌↔◌, ℕ, List, [], ◌∷◌, length, refl, sym, ap, ◌∙◌, subst, arith}
use Rattle.std.specs.Prelude.{slice_index_or}
use Rattle.cs_check.specs.declared.checking.pass.Outcome.{Outcome}
use Rattle.cs_check.specs.declared.checking.pass.Outcome.TheVariants.{No, Yes}
use Rattle.cs_check.specs.declared.passing.fault.ClaimFault.{ClaimFault}
use Rattle.cs_check.specs.declared.passing.fault.ClaimFault.TheVariants.{Form, Head, Unclosed, Derive, Size, Yield, Scan, Goal, Infeasible, Base, Edit, Pair, Totals}
use Rattle.cs_check.specs.Checking.Told.{checked_by}
use Rattle.cs_check.specs.Passing.Above.{edits, goals_in}
use Rattle.cs_check.specs.Passing.Faults.{Checked, HasFault}
use Rattle.cs_check.specs.Passing.Outcomes.{HasCounts, IsOutcome}
use Rattle.cs_check.specs.Passing.Passing.{Fails, Passes, number}
use Rattle.cs_check.proofs.OnChecking.Judging.{one_list}
use Rattle.cs_check.proofs.OnPassing.First.{never_clean, one_first}
use Rattle.cs_scanner.specs.Scan.Scan.{Scanning}
use Rattle.cs_yacc.specs.Reading.File.{File}
use Rattle.cs_check_text.specs.Text.{DeniesWhereItFails, IsCheckText, IsDenial, outcome_line, yes_line}

-- ---- faults by their numbers

abbrev fault_of : ℕ → ClaimFault
fault_of n =
    slice_index_or (Form ∷ Head ∷ Unclosed ∷ Derive ∷ Size ∷ Yield ∷ Scan ∷ Goal ∷ Infeasible ∷ Base ∷ Edit ∷ Pair ∷ Totals ∷ []) n Form

back : (f : ClaimFault) → fault_of (number f) ≡ f
back Form = refl
back Head = refl
back Unclosed = refl
back Derive = refl
back Size = refl
back Yield = refl
back Scan = refl
back Goal = refl
back Infeasible = refl
back Base = refl
back Edit = refl
back Pair = refl
back Totals = refl

apart : (f g : ClaimFault) → number f ≡ number g → f ≡ g
apart f g e = sym (back f) ∙ ap fault_of e ∙ back g

-- ---- outcomes

module _ (c : Checked) (manifest : List ℕ) where
  one_fault : (n m : ℕ) (f g : ClaimFault) → Fails c manifest n f → Fails c manifest m g → (n ≡ m) × (f ≡ g)
  one_fault n m f g = one_first (HasFault c) number apart _ n m f g

  not_both : (n : ℕ) (f : ClaimFault) → Fails c manifest n f → Passes c manifest → ⊥
  not_both n f = never_clean (HasFault c) number _ n f

  same_line : (n m : ℕ) (f g : ClaimFault) → (n ≡ m) × (f ≡ g) → No n f ≡ No m g
  same_line n m f g same = ap (λ (l : ℕ). No l f) same.0 ∙ ap (λ (x : ClaimFault). No m x) same.1

  same_counts : (g n h m : ℕ) → HasCounts manifest g n → HasCounts manifest h m → Yes g n ≡ Yes h m
  same_counts g n h m a b =
      let lines = one_list _ a.lines b.lines a.said b.said in
      let goals : g ≡ h = a.are_goals ∙ ap (λ ls. length (goals_in ls)) lines ∙ sym b.are_goals in
      let negatives : n ≡ m = a.are_negatives ∙ ap (λ ls. length (edits ls)) lines ∙ sym b.are_negatives in
      ap (λ (k : ℕ). Yes k n) goals ∙ ap (λ (k : ℕ). Yes h k) negatives

  one_outcome : (a b : Outcome) → IsOutcome c manifest a → IsOutcome c manifest b → a ≡ b
  one_outcome (Yes g n) (Yes h m) x y = same_counts g n h m x.1 y.1
  one_outcome (Yes g n) (No line fault) x y = absurd (not_both line fault y x.0)
  one_outcome (No line fault) (Yes g n) x y = absurd (not_both line fault x y.0)
  one_outcome (No n f) (No m g) x y = same_line n m f g (one_fault n m f g x y)

pub one_text : (file : File) (s : Scanning) (manifest a b : List ℕ) → IsCheckText file s manifest a → IsCheckText file s manifest b → a ≡ b
one_text file s manifest a b x y = x.line ∙ ap outcome_line (one_outcome (checked_by file s) manifest x.outcome y.outcome x.is y.is) ∙ sym y.line

-- ---- denials

abbrev first : List ℕ → ℕ
first [] = 0
first (x ∷ xs) = x

-- a text that says yes doesn't say no
pub yes_is_no_denial : (goals negatives : ℕ) → IsDenial (yes_line goals negatives) → ⊥
yes_is_no_denial goals negatives denial = let letters : 121 ≡ 110 = ap first denial.2 in omega (arith, letters)

denied_by : (c : Checked) (manifest text : List ℕ) (outcome : Outcome) → IsOutcome c manifest outcome → text ≡ outcome_line outcome
    → IsDenial text ↔ ((line : ℕ) × (fault : ClaimFault) × Fails c manifest line fault)
denied_by c manifest text (Yes goals negatives) is said = (
  (λ denial. absurd (yes_is_no_denial goals negatives (subst IsDenial said denial))),
  (λ fails. absurd (not_both c manifest fails.0 fails.1 fails.2 is.0)),
)
denied_by c manifest text (No line fault) is said = ((λ denial. (line, fault, is)), (λ fails. (line, fault, said)))

pub denies_where_it_fails : (file : File) (s : Scanning) (manifest : List ℕ) → DeniesWhereItFails file s manifest
denies_where_it_fails file s manifest text is = denied_by (checked_by file s) manifest text is.outcome is.is is.line
