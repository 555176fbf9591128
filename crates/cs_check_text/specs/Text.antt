-- What `check` writes of a manifest: a line that says yes with two counts, or no with a line and its fault.
use Rattle.std.specs.Prelude.{◌≡◌, ◌↔◌, ℕ, Bool, true, false, List, ◌++◌, codes, decimal}
use Rattle.cs_check.specs.declared.checking.pass.Outcome.{Outcome}
use Rattle.cs_check.specs.declared.checking.pass.Outcome.TheVariants.{No, Yes}
use Rattle.cs_check.specs.declared.passing.fault.ClaimFault.{ClaimFault}
use Rattle.cs_check.specs.declared.passing.fault.ClaimFault.TheVariants.{Form, Head, Unclosed, Derive, Size, Yield, Scan, Goal, Infeasible, Base, Edit, Pair, Totals}
use Rattle.cs_check.specs.Passing.Outcomes.{IsOutcome}
use Rattle.cs_check.specs.Passing.Passing.{Fails}
use Rattle.cs_check.specs.Checking.Told.{checked_by}
use Rattle.cs_io.specs.Asked.{GrewByOne}
use Rattle.cs_io.specs.declared.sink.Sink as Sink
use Rattle.cs_scanner.specs.declared.scanning.scanner.Scanner.{Scanner}
use Rattle.cs_scanner.specs.Scan.Compared.{scanning}
use Rattle.cs_yacc.specs.Reading.File.{File}
use Rattle.cs_scanner.specs.Scan.Scan.{Scanning}

-- ---- lines

abbrev pub fault_word : ClaimFault → List ℕ
fault_word Form = codes "Form"
fault_word Head = codes "Head"
fault_word Unclosed = codes "Unclosed"
fault_word Derive = codes "Derive"
fault_word Size = codes "Size"
fault_word Yield = codes "Yield"
fault_word Scan = codes "Scan"
fault_word Goal = codes "Goal"
fault_word Infeasible = codes "Infeasible"
fault_word Base = codes "Base"
fault_word Edit = codes "Edit"
fault_word Pair = codes "Pair"
fault_word Totals = codes "Totals"

-- `yes goals G negatives N`
abbrev pub yes_line : ℕ → ℕ → List ℕ
yes_line goals negatives =
    codes "yes goals " ++ (decimal goals ++ (codes " negatives " ++ (decimal negatives ++ codes "\n")))

-- `no line L: NAME`
abbrev pub no_line : ℕ → ClaimFault → List ℕ
no_line line fault = codes "no line " ++ (decimal line ++ (codes ": " ++ (fault_word fault ++ codes "\n")))

abbrev pub outcome_line : Outcome → List ℕ
outcome_line (Yes goals negatives) = yes_line goals negatives
outcome_line (No line fault) = no_line line fault

-- ---- texts

-- The text says how the check of the manifest ends, beside a yacc file and what a scanner scans by.
pub record IsCheckText (file : File) (s : Scanning) (manifest text : List ℕ) : Type 0 where
  pub outcome : Outcome
  pub is : IsOutcome (checked_by file s) manifest outcome
  pub line : text ≡ outcome_line outcome

-- the text says no
abbrev pub IsDenial : List ℕ → Type 0
IsDenial text = (line : ℕ) × (fault : ClaimFault) × (text ≡ no_line line fault)

-- the law: where a text is asked for, it says no exactly where some line has a fault
abbrev pub DeniesWhereItFails : File → Scanning → List ℕ → Type 0
DeniesWhereItFails file s manifest =
    (text : List ℕ) → IsCheckText file s manifest text
    → IsDenial text ↔ ((line : ℕ) × (fault : ClaimFault) × Fails (checked_by file s) manifest line fault)

-- a text says yes, or no
abbrev pub Answers : Bool → List ℕ → Type 0
Answers true text = ¬ IsDenial text
Answers false text = IsDenial text

-- ---- the same by a scanner

abbrev pub IsTextOf : File → Scanner → List ℕ → List ℕ → Type 0
IsTextOf file scanner manifest text = IsCheckText file (scanning scanner) manifest text

-- what was taken grew by such a text, which says this
abbrev pub TookAnswer : {S : Type 0} → Sink.Ghosts S → File → Scanner → List ℕ → S → S → Bool → Type 0
TookAnswer g file scanner manifest old new answer =
    GrewByOne (λ text. IsTextOf file scanner manifest text × Answers answer text) (g.written old) (g.written new)
