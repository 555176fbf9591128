-- When a manifest passes, and else which line is the first with a fault.
use Rattle.std.specs.Prelude.{◌≡◌, ℕ, List}
use Rattle.cs_check.specs.declared.passing.fault.ClaimFault.{ClaimFault}
use Rattle.cs_check.specs.declared.passing.fault.ClaimFault.TheVariants.{Form, Head, Unclosed, Derive, Size, Yield, Scan, Goal, Infeasible, Base, Edit, Pair, Totals}
use Rattle.cs_check.specs.Passing.First as first
use Rattle.cs_check.specs.Passing.First.{IsFirstFault}
use Rattle.cs_lines.specs.Lines.Pieces.{ended}
use Rattle.cs_check.specs.Passing.Faults.{Checked, HasFault}

-- the order of faults
abbrev pub number : ClaimFault → ℕ
number Form = 0
number Head = 1
number Unclosed = 2
number Derive = 3
number Size = 4
number Yield = 5
number Scan = 6
number Goal = 7
number Infeasible = 8
number Base = 9
number Edit = 10
number Pair = 11
number Totals = 12

-- no line has a fault
abbrev pub Passes : Checked → List ℕ → Type 0
Passes c text = first.IsClean (HasFault c) (ended text)

-- this line is the first with a fault, and this is its lowest
abbrev pub Fails : Checked → List ℕ → ℕ → ClaimFault → Type 0
Fails c text line fault = IsFirstFault (HasFault c) number (ended text) line fault

-- the laws: a text fails at no more than one line with no more than one fault, and doesn't pass then
abbrev pub FailsOnce : Checked → List ℕ → Type 0
FailsOnce c text =
    (n m : ℕ) (f g : ClaimFault) → Fails c text n f → Fails c text m g → (n ≡ m) × (f ≡ g)

abbrev pub FailsOrPasses : Checked → List ℕ → Type 0
FailsOrPasses c text = (n : ℕ) (f : ClaimFault) → Fails c text n f → Passes c text → ⊥
