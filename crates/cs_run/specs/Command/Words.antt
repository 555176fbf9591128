-- What is kept by what words ask for.
use Rattle.std.specs.Prelude.{◌≡◌, ℕ, Bool, true, false, List, [], Err, Ok, Result}
use Rattle.cs_io.specs.Uses.{DeskUse, SinkUse}
use Rattle.cs_run.specs.declared.input.refusal.Refusal.TheVariants.{States}
use Rattle.cs_run.specs.declared.input.refusal.Stop.{Stop}
use Rattle.cs_scanner.specs.declared.automaton.error.AutomatonError.{AutomatonError}
use Rattle.cs_scanner.specs.declared.automaton.error.AutomatonError.TheVariants as automaton
use Rattle.cs_run.specs.declared.input.refusal.Stop.TheVariants as stop
use Rattle.cs_run.specs.declared.ending.ending.Ending.{Ending}
use Rattle.cs_run.specs.declared.ending.ending.Ending.TheVariants.{Denied, Halted, NoFile, Refused, Written}
use Rattle.cs_run.specs.Ending.Ending.{Performs}
use Rattle.cs_run.specs.Ending.Headline.{KeepsPromises}
use Rattle.cs_words.specs.Requests.{IsAsked, PlainRequest, files_of}
use Rattle.cs_words.specs.Words.{IsFirstBad}
use Rattle.cs_io.specs.declared.halt.Halt.{Halt}
use Rattle.cs_io.specs.declared.halt.Halt.TheVariants as halt

-- The promises are kept of what the words ask for, or of their first bad place.
abbrev pub KeepsPromisesTo : List (List ℕ) → DeskUse → SinkUse → SinkUse → ℕ → Type 0
KeepsPromisesTo words desk out err status = (asked : Result PlainRequest ℕ) × IsAsked words asked × KeepsPromises asked desk out err status

-- some place is the first bad one
abbrev pub AreBad : List (List ℕ) → Type 0
AreBad words = (at : ℕ) × IsFirstBad words at

-- they ask for something that names no files
abbrev pub AskForNoFiles : List (List ℕ) → Type 0
AskForNoFiles words = (request : PlainRequest) × IsAsked words (Ok request) × (files_of request ≡ [])

-- a run of these words ended so
abbrev pub PerformsFor : List (List ℕ) → Ending → DeskUse → SinkUse → Type 0
PerformsFor words ending desk out = (asked : Result PlainRequest ℕ) × IsAsked words asked × Performs ending asked desk out

-- how a run ends whose files aren't given
abbrev pub ending_of : Stop → Ending
ending_of (stop.NoFile role) = NoFile role
ending_of (stop.Refused refusal) = Refused refusal
ending_of stop.Memory = Halted halt.Memory

-- how a run ends whose text was written, or whose writing stopped
abbrev pub ending_after : Result Unit Halt → Ending
ending_after (Ok done) = Written
ending_after (Err halt) = Halted halt

-- how a run ends whose check was written, or whose writing stopped
abbrev pub ending_of_check : Result Bool Halt → Ending
ending_of_check (Ok true) = Written
ending_of_check (Ok false) = Denied
ending_of_check (Err halt) = Halted halt

-- how a run ends where a lex file has no automaton
abbrev pub ending_by : AutomatonError → Ending
ending_by (automaton.TooManyStates most) = Refused States
ending_by automaton.Memory = Halted halt.Memory
