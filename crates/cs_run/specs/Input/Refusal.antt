-- Why files are refused, the first cause that applies.
use Rattle.std.specs.Prelude.{◌≡◌, ◌⊎◌, ◌<◌, ℕ, length, List, [], ◌∷◌, Option}
use Rattle.cs_scanner.specs.Automaton.Counted.{IsAbove}
use Rattle.cs_scanner.specs.Automaton.Meaning.{res}
use Rattle.cs_scanner.specs.Automaton.Places.{InSet}
use Rattle.cs_io.specs.Desk.{Files, IsMissing}
use Rattle.cs_io.specs.declared.desk.Desk as Desk
use Rattle.cs_io.specs.Uses.{Change, HasFailed}
use Rattle.cs_lex.specs.Reading.File as lex
use Rattle.cs_lex.specs.Reading.Reading as lex_reading
use Rattle.cs_yacc.specs.Reading.File as yacc
use Rattle.cs_yacc.specs.Reading.Reading as yacc_reading
use Rattle.cs_yacc.specs.Reading.Reading.{IsYaccFile}
use Rattle.cs_words.specs.Requests.{Named}
use Rattle.cs_run.specs.declared.input.refusal.Refusal.{Refusal}
use Rattle.cs_run.specs.declared.input.refusal.Refusal.TheVariants.{ManyChains, OfLex, OfYacc, States, TextStops, TextTokens, TooLong}
use Rattle.cs_words.specs.declared.command.Role.{Role}
use Rattle.cs_words.specs.declared.command.Role.TheVariants.{Lex, Yacc}
use Rattle.cs_run.specs.declared.input.refusal.Stop.{Stop}
use Rattle.cs_run.specs.declared.input.refusal.Stop.TheVariants.{NoFile, Refused, Memory}
use Rattle.cs_run.specs.Input.Files.{Content, HasNoFile, HaveContents, IsWithinLength, faults_of, most_for}
use Rattle.cs_yacc.specs.declared.reading.error.YaccError.TheVariants as yacc_error
use Rattle.cs_lex.specs.declared.reading.error.LexError.{LexError}
use Rattle.cs_lex.specs.declared.reading.error.LexError.TheVariants as lex_error

-- the patterns have more than 16,384 sets of positions
abbrev pub HasManyStates : lex.File → Type 0
HasManyStates file = IsAbove (InSet (res file.patterns)) 16384

-- the first file that is too long is of that role
abbrev pub IsFirstLong : List Content → Role → Type 0
IsFirstLong [] role = ⊥
IsFirstLong (content ∷ contents) role =
    ((content.role ≡ role) × (most_for content.role < length content.bytes))
    ⊎ (IsWithinLength content × IsFirstLong contents role)

-- none is too long
abbrev pub AreShort : List Content → Type 0
AreShort [] = Unit {0}
AreShort (content ∷ contents) = IsWithinLength content × AreShort contents

-- Why files are refused that are not too long: the reading of the yacc file and of the lex file.
abbrev pub RefusesShort : Refusal → List Content → Type 0
RefusesShort (OfYacc error) (one ∷ contents) = yacc_reading.Refuses error one.bytes
RefusesShort (OfLex error) (one ∷ other ∷ contents) =
    ((file : yacc.File) × IsYaccFile one.bytes file) × lex_reading.Refuses error other.bytes
RefusesShort refusal contents = ⊥

-- Why files are refused as they are read: their lengths, in order, and then what they hold.
abbrev pub Refuses : Refusal → List Content → Type 0
Refuses (TooLong role) contents = IsFirstLong contents role
Refuses refusal contents = AreShort contents × RefusesShort refusal contents

-- why files aren't given
abbrev pub Stops : Option Files → Change ℕ → List Named → Stop → Type 0
Stops files faults named (NoFile role) = HasNoFile files faults named role
Stops files faults named (Refused refusal) = HaveContents files named (Refuses refusal)
Stops files faults named Memory = Unit {0}

-- what contents that were read are refused for
abbrev pub RefusesRead : List Content → Stop → Type 0
RefusesRead contents (NoFile role) = ⊥
RefusesRead contents (Refused refusal) = Refuses refusal contents
RefusesRead contents Memory = Unit {0}

-- the contents of a yacc file, and of a lex file beside it
abbrev pub yacc_content : List ℕ → Content
yacc_content bytes = record { role = Yacc; bytes = bytes }

abbrev pub pair_contents : List ℕ → List ℕ → List Content
pair_contents bytes more = yacc_content bytes ∷ record { role = Lex; bytes = more } ∷ []

-- and of a third file of that role
abbrev pub text_contents : Role → List ℕ → List ℕ → List ℕ → List Content
text_contents role bytes more text =
    yacc_content bytes ∷ record { role = Lex; bytes = more } ∷ record { role = role; bytes = text } ∷ []

-- want of memory is no refusal
abbrev pub IsTold : Refusal → Type 0
IsTold (TooLong role) = Unit {0}
IsTold (OfYacc error) = ¬ (error ≡ yacc_error.Memory)
IsTold (OfLex error) = ¬ (error ≡ lex_error.Memory)
IsTold States = Unit {0}
IsTold (ManyChains found) = Unit {0}
IsTold (TextStops at) = Unit {0}
IsTold (TextTokens found) = Unit {0}

-- why a file's bytes aren't given
abbrev pub StopsFile : Role → Option Files → List ℕ → Change ℕ → Stop → Type 0
StopsFile role files name faults (NoFile other) = (other ≡ role) × (HasFailed faults ⊎ IsMissing files name)
StopsFile role files name faults (Refused refusal) = ⊥
StopsFile role files name faults Memory = faults.after ≡ faults.before

-- the same of why files aren't given
abbrev pub CanBeTold : Stop → Type 0
CanBeTold (NoFile role) = Unit {0}
CanBeTold (Refused refusal) = IsTold refusal
CanBeTold Memory = Unit {0}

-- the answer where the reading of a lex file ends so
abbrev pub lex_stop : LexError → Stop
lex_stop lex_error.Memory = Memory
lex_stop error = Refused (OfLex error)

-- ---- the same by the meanings of a desk

module _ {D : Type 0} (g : Desk.Ghosts D) (old new : D) where
  abbrev pub FilesStop : List Named → Stop → Type 0
  FilesStop named stop = Stops (g.files old) (faults_of g.faults old new) named stop

  abbrev pub FileStops : Role → List ℕ → Stop → Type 0
  FileStops role name stop = StopsFile role (g.files old) name (faults_of g.faults old new) stop
