-- An automaton with the steps of its states.
use Rattle.std.specs.Prelude.{ℕ, Bool, List}
use Rattle.cs_scanner.specs.declared.lexeme.search.Visit.{Visit}
use Rattle.cs_scanner.specs.declared.lexeme.steps.Step.{Step}
use Rattle.cs_scanner.specs.declared.lexeme.steps.StepTable.{StepTable}
use Rattle.cs_scanner.specs.declared.lexeme.steps.Steps.{Steps}
use Rattle.cs_scanner.specs.Lexeme.Steps.{AreRows, rows_of}
use Rattle.cs_scanner.specs.Lexeme.Visits.{AreAllMet, AreMet}

abbrev pub table_rows : StepTable → List (List Step)
table_rows t = rows_of t.rows.items

abbrev pub IsTable : StepTable → Type 0
IsTable t = AreRows t.scanner.automaton.now (table_rows t)

-- the same without a scanner
abbrev pub step_rows : Steps → List (List Step)
step_rows s = rows_of s.rows.now

abbrev pub AreSteps : Steps → Type 0
AreSteps s = AreRows s.automaton.now (step_rows s)

-- the states so far, and which are marked
abbrev pub AreMetIn : Steps → List Visit → List Bool → Type 0
AreMetIn s visits met = AreMet s.automaton.now visits met

-- all states behind those from the place on were met
abbrev pub MeetsAll : Steps → ℕ → List Visit → List Visit → Type 0
MeetsAll s from old new = AreAllMet s.automaton.now (step_rows s) from old new
