-- What the functions that make columns and states answer, over the types of the code.
use Rattle.std.specs.Prelude.{◌≡◌, ℕ, Bool, List, Option, Some, slice_get, length}
use Rattle.std.proofs.Common.{Vec, Global}
use Rattle.cs_scanner.specs.declared.automaton.columns.Columns.{Columns}
use Rattle.cs_scanner.specs.declared.automaton.program.Program.{Program}
use Rattle.cs_scanner.specs.declared.automaton.states.Behind.{Behind}
use Rattle.cs_scanner.specs.declared.automaton.states.States.{States}
use Rattle.cs_scanner.specs.Automaton.Programs.{rules_of}
use Rattle.cs_scanner.specs.Automaton.Sets.{lists}
use Rattle.cs_scanner.specs.Automaton.States as spec

-- the columns of these classes, with rows of that many words
abbrev pub AreColumnsOf : List (List ℕ) → ℕ → Columns → Type 0
AreColumnsOf classes width c = spec.AreColumns classes (lists c.rows.keys) c.column_of.items width

-- all rules of the program were walked over a set
abbrev pub WalksAll : Program → Bool → List ℕ → List ℕ → List ℕ → List ℕ → Type 0
WalksAll p entered set old new rules = spec.IsWalkedAll (rules_of p) entered set old new rules

-- what may come behind a set, entered or not, and the rules that end there
abbrev pub IsBehind : Program → Bool → List ℕ → Behind → Type 0
IsBehind p entered set b = spec.IsAfter (rules_of p) entered set b.next.items b.rules.items

-- the lists are of that length
abbrev pub AreLong : ℕ → List (List ℕ) → Type 0
AreLong long rows = (k : ℕ) (row : List ℕ) → slice_get rows k ≡ Some row → length row ≡ long

-- the step over a row, with the sets before and after
abbrev pub AddsStep : List (Vec ℕ Global) → List (Vec ℕ Global) → List ℕ → List ℕ → Option ℕ → Type 0
AddsStep old new next row to = spec.AddsStep (lists old) (lists new) next row to

-- the steps over all rows, with the sets before and after
abbrev pub AddsSteps : List (Vec ℕ Global) → List (Vec ℕ Global) → List ℕ → List (Vec ℕ Global) → List (Option ℕ) → Type 0
AddsSteps old new next rows steps = spec.AddsSteps (lists old) (lists new) next (lists rows) steps

-- all states of the program, of which there are at most 16,384 beside the start, and all their steps
abbrev pub AreStates : Program → List (Vec ℕ Global) → ℕ → States → Type 0
AreStates p rows width s = spec.IsBuilt (rules_of p) (lists rows) width 16384 (lists s.sets.keys) (spec.option_lists s.steps.items)

-- the rules that match the texts of each state
abbrev pub HaveRules : Program → States → Type 0
HaveRules p s = spec.AreRulesOf (rules_of p) (lists s.sets.keys) (lists s.rules.items)
