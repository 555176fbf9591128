-- How the writing of a text ended, and what that is of a request's files.
use Rattle.std.specs.Prelude.{◌≡◌, ◌⊎◌, ◌∷◌, [], ℕ, List}
use Rattle.cs_deep.specs.Membership.{GrewByFront}
use Rattle.cs_grammar.specs.Grammar.{PlainGrammar}
use Rattle.cs_io.specs.Uses.{HasFailed, IsUnused, SinkUse}
use Rattle.cs_io.specs.declared.halt.Halt.TheVariants.{Failed, Memory}
use Rattle.cs_run.specs.declared.input.judging.Meant.{Meant}
use Rattle.cs_run.specs.declared.input.judging.Meant.TheVariants.{Grammar, Pair as PairOf, Text}
use Rattle.cs_run.specs.declared.input.judging.Pair.{Pair}
use Rattle.cs_run.specs.declared.input.judging.PairAndText.{PairAndText}
use Rattle.cs_run.specs.declared.input.refusal.Refusal.{Refusal}
use Rattle.cs_run.specs.declared.input.refusal.Refusal.TheVariants.{ManyChains, States}
use Rattle.cs_run.specs.Input.Files.{Content, Mean}
use Rattle.cs_run.specs.Input.Read.{third_role}
use Rattle.cs_run.specs.Input.Refusal.{HasManyStates}
use Rattle.cs_run.specs.declared.ending.ending.Ending.{Ending}
use Rattle.cs_run.specs.declared.ending.ending.Ending.TheVariants.{BadWord, Denied, Halted, NoFile, Refused, Written}
use Rattle.cs_run.specs.Ending.Ending.{GrewAsAsked}
use Rattle.cs_run.specs.Ending.Summary.{IsSummary}
use Rattle.cs_run.specs.Ending.Files.{Accepted, HasFewChains, HasManyChains, IsBeyond, IsWithin, RefusesFor}
use Rattle.cs_run.specs.Ending.Texts.{Denies, IsTextBy, IsTextOf, NoneDenies}
use Rattle.cs_words.specs.declared.command.Command.{Command}
use Rattle.cs_words.specs.declared.command.Role.TheVariants.{Lex, Yacc}
use Rattle.cs_words.specs.declared.options.Options.{Options}
use Rattle.cs_words.specs.Commands.{Files, taken_of}
use Rattle.cs_words.specs.Requests.{PlainArguments, PlainRequest, plain_arguments}
use Rattle.cs_words.specs.declared.request.Request.{Request}
use Rattle.cs_yacc.specs.declared.reading.file.YaccFile.{YaccFile}
use Rattle.cs_io.specs.Asked.{GrewByOne, GrewByPart, HasRoomForAll}

-- `accepted` says when there is a text, `refused` why there is none, `Is` which texts are asked for, `Part` how the output grew
-- where the writing stopped, and `No` which texts are denials
module _ (accepted : Type 0) (refused : Refusal → Type 0) (Is : List ℕ → Type 0) (Part : SinkUse → Type 0) (No : List ℕ → Type 0) where
  abbrev pub WritingEnds : Ending → SinkUse → Type 0
  WritingEnds Written out = accepted × GrewByOne (λ text. Is text × ¬ No text) out.written.before out.written.after × (out.faults.after ≡ out.faults.before)
  WritingEnds Denied out = accepted × GrewByOne (λ text. Is text × No text) out.written.before out.written.after × (out.faults.after ≡ out.faults.before)
  WritingEnds (Refused refusal) out = refused refusal × IsUnused out
  WritingEnds (Halted Failed) out = accepted × Part out × HasFailed out.faults
  WritingEnds (Halted Memory) out = IsUnused out ⊎ (accepted × Part out)
  WritingEnds (BadWord at) out = ⊥
  WritingEnds (NoFile role) out = ⊥

  -- the writing ended so, and without a fault where there was room for each text
  pub record Writes (ending : Ending) (out : SinkUse) : Type 0 where
    pub ends : WritingEnds ending out
    pub room : HasRoomForAll Is out.room → out.faults.after ≡ out.faults.before

-- a prefix of each such text
abbrev pub GrewByEach : (List ℕ → Type 0) → SinkUse → Type 0
GrewByEach Is out = GrewByPart Is out.written.before out.written.after

-- nothing, or a prefix of one such text
abbrev pub GrewBySome : (List ℕ → Type 0) → SinkUse → Type 0
GrewBySome Is out = GrewByFront Is out.written.before out.written.after

-- there is a text in any case
abbrev pub WritesSure : (List ℕ → Type 0) → Ending → SinkUse → Type 0
WritesSure Is ending out = Writes (Unit {0}) (λ refusal. ⊥) Is (GrewByEach Is) NoneDenies ending out

-- the summary of a number was written, and that ended so
abbrev pub WritesSummary : ℕ → Ending → SinkUse → Type 0
WritesSummary seed ending out = Writes (Unit {0}) (λ refusal. ⊥) (IsSummary seed) (GrewBySome (IsSummary seed)) NoneDenies ending out

-- the automaton of a pair's lex file has too many states, and the refusal tells that
abbrev pub HasTooManyStates : Pair → Refusal → Type 0
HasTooManyStates pair refusal = (refusal ≡ States) × HasManyStates pair.lex

-- a text that is asked for by a pair of files was written, and that ended so
abbrev pub WritesOfPair : Pair → (List ℕ → Type 0) → Ending → SinkUse → Type 0
WritesOfPair pair Is ending out = Writes (¬ HasManyStates pair.lex) (HasTooManyStates pair) Is (GrewByEach Is) NoneDenies ending out

-- the grammar has too many chains for the command, and the refusal tells how many
abbrev pub HasTooManyChains : Command → PlainGrammar → Refusal → Type 0
HasTooManyChains command g refusal = (found : ℕ) × (refusal ≡ ManyChains found) × HasManyChains command g found

-- a text that a command asks for by a grammar was written, and that ended so
abbrev pub WritesOfGrammar : Command → PlainGrammar → (List ℕ → Type 0) → Ending → SinkUse → Type 0
WritesOfGrammar command g Is ending out = Writes (HasFewChains command g) (HasTooManyChains command g) Is (GrewByEach Is) NoneDenies ending out

-- the text that a command asks for by what its files mean was written, and that ended so
abbrev pub WritesBy : Command → PlainArguments → Options → Meant → Ending → SinkUse → Type 0
WritesBy command arguments options meant ending out =
    Writes (IsWithin meant command) (λ refusal. IsBeyond meant refusal command) (IsTextBy command arguments options meant)
    (GrewAsAsked command (IsTextBy command arguments options meant)) (Denies command) ending out

-- the text that a request asks for by what its files mean was written, and that ended so
abbrev pub WritesAsked : Request → Meant → Ending → SinkUse → Type 0
WritesAsked request meant ending out = WritesBy request.command (plain_arguments request.arguments) request.options meant ending out

-- whatever contents mean this: the text that the request asks for by them was written, and that ended so
abbrev pub CarriesOut : PlainRequest → Meant → Ending → SinkUse → Type 0
CarriesOut request meant ending out =
    (contents : List Content) → Mean contents meant
    → Writes (Accepted request.command contents) (λ refusal. RefusesFor request.command refusal contents) (IsTextOf request contents)
    (GrewAsAsked request.command (IsTextOf request contents)) (Denies request.command) ending out

-- a command takes a yacc file; a command takes a yacc file and a lex file
abbrev pub TakesGrammar : Command → Type 0
TakesGrammar command = taken_of command ≡ Files (Yacc ∷ [])

abbrev pub TakesPair : Command → Type 0
TakesPair command = taken_of command ≡ Files (Yacc ∷ Lex ∷ [])

-- and a third file
abbrev pub TakesThird : Command → Type 0
TakesThird command = taken_of command ≡ Files (Yacc ∷ Lex ∷ third_role command ∷ [])

-- whatever the command was given besides
abbrev pub WritesByGrammar : Command → YaccFile → Ending → SinkUse → Type 0
WritesByGrammar command file ending out =
    (arguments : PlainArguments) (options : Options) → WritesBy command arguments options (Grammar file) ending out

abbrev pub WritesByPair : Command → Options → Pair → Ending → SinkUse → Type 0
WritesByPair command options pair ending out =
    (arguments : PlainArguments) → WritesBy command arguments options (PairOf pair) ending out

abbrev pub WritesByText : Command → PairAndText → Ending → SinkUse → Type 0
WritesByText command beside ending out =
    (arguments : PlainArguments) (options : Options) → WritesBy command arguments options (Text beside) ending out
