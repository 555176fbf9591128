-- No line above the first fault has one, and no two faults have the same number.
use Rattle.std.proofs.Common.{◌≡◌, ℕ, [], ◌∷◌, refl, sym, ap, ◌∙◌}
use Rattle.std.specs.Prelude.{slice_index_or}
use Rattle.cs_check.specs.declared.passing.fault.ClaimFault.{ClaimFault}
use Rattle.cs_check.specs.declared.passing.fault.ClaimFault.TheVariants.{Form, Head, Unclosed, Derive, Size, Yield, Scan, Goal, Infeasible, Base, Edit, Pair, Totals}
use Rattle.cs_lines.specs.Lines.Pieces.{ended}
use Rattle.cs_check.specs.Passing.Faults.{HasFault}
use Rattle.cs_check.specs.Passing.Passing.{number}
use Rattle.cs_check.proofs.OnPassing.First.{one_first, never_clean}
use Rattle.cs_check.proofs.passing.laws.one_failure.Goals as goal

-- the fault of a number
abbrev fault_of : ℕ → ClaimFault
fault_of n =
    slice_index_or (Form ∷ Head ∷ Unclosed ∷ Derive ∷ Size ∷ Yield ∷ Scan ∷ Goal ∷ Infeasible ∷ Base ∷ Edit ∷ Pair ∷ Totals ∷ []) n Form

same : (f : ClaimFault) → fault_of (number f) ≡ f
same Form = refl
same Head = refl
same Unclosed = refl
same Derive = refl
same Size = refl
same Yield = refl
same Scan = refl
same Goal = refl
same Infeasible = refl
same Base = refl
same Edit = refl
same Pair = refl
same Totals = refl

apart : (f g : ClaimFault) → number f ≡ number g → f ≡ g
apart f g e = sym (same f) ∙ ap fault_of e ∙ same g

pub returns-clause-one : goal.returns-clause-one
returns-clause-one c k text n m f g = one_first (HasFault k) number apart (ended text) n m f g

pub returns-clause-either : goal.returns-clause-either
returns-clause-either c k text n f = never_clean (HasFault k) number (ended text) n f
