-- Which text is asked for: a row for each command, by what it takes. Where the desk tells no files, any contents count.
use Rattle.std.specs.Prelude.{◌≡◌, ◌⊎◌, ◌≤◌, ℕ, length, List, [], Option, None, Some, Result, IsOkAnd, IsSome}
use Rattle.cs_grammar.specs.Laws.{AtMostOne}
use Rattle.cs_io.specs.Desk.{Files}
use Rattle.cs_words.specs.declared.command.Command.{Command}
use Rattle.cs_words.specs.declared.command.Command.TheVariants.{Check, Gen, Member, OfGrammar, OfPair}
use Rattle.cs_words.specs.declared.command.GrammarCommand.{GrammarCommand}
use Rattle.cs_words.specs.declared.command.GrammarCommand.TheVariants as of_grammar
use Rattle.cs_words.specs.declared.command.PairCommand.{PairCommand}
use Rattle.cs_words.specs.declared.command.PairCommand.TheVariants as of_pair
use Rattle.cs_words.specs.declared.options.Options.{Options}
use Rattle.cs_words.specs.Requests.{Number, PlainArguments, PlainRequest, files_of}
use Rattle.cs_chain_text.specs.Entries.Text.{IsChainsText}
use Rattle.cs_check_text.specs.Text.{IsCheckText, IsDenial}
use Rattle.cs_choices.specs.declared.weigh.Weigh.TheVariants.{Nodes}
use Rattle.cs_deep.specs.Membership.{IsMemberText}
use Rattle.cs_spell.specs.Telling.Spelling.{IsSpelling}
use Rattle.cs_deep.specs.Writing.Deep.{IsDeepText}
use Rattle.cs_lexical.specs.Lines.{IsLexical}
use Rattle.cs_wrong.specs.Writing.Text.{IsWrongText}
use Rattle.cs_manifest.specs.Manifest.Manifest.{IsManifest, rules_form}
use Rattle.cs_scanner.specs.Scan.Scan.{Scanning, Scans}
use Rattle.cs_yacc.specs.Reading.File.{File}
use Rattle.cs_run.specs.declared.input.judging.Meant.{Meant}
use Rattle.cs_run.specs.declared.input.judging.Meant.TheVariants.{Grammar, Nothing, Pair, Text}
use Rattle.cs_run.specs.Input.Files.{Content, HaveContents, Mean}
use Rattle.cs_run.specs.Ending.Files.{IsWithin, choice_by, deep_choice, scanning_of, texts_by}
use Rattle.cs_run.specs.Ending.Summary.{IsSummary}

-- by a yacc file
abbrev pub IsTextOfGrammar : GrammarCommand → File → List ℕ → Type 0
IsTextOfGrammar of_grammar.Rules file text = IsManifest rules_form file text
IsTextOfGrammar of_grammar.Chains file text = IsChainsText file None Nodes text

-- by a yacc file and what a lex file's texts are scanned by
abbrev pub IsTextOfPair : PairCommand → Options → File → Scanning → List ℕ → Type 0
IsTextOfPair of_pair.Suite options file s text = IsManifest (choice_by options s) file text
IsTextOfPair of_pair.Lexical options file s text = IsLexical file s text
IsTextOfPair of_pair.Spell options file s text = IsSpelling file (texts_by options s) options.weigh text
IsTextOfPair of_pair.Deep options file s text = IsDeepText (deep_choice options s) file text
IsTextOfPair of_pair.Chains options file s text = IsChainsText file (Some (texts_by options s)) options.weigh text
IsTextOfPair of_pair.Wrong options file s text = IsWrongText file (Some (texts_by options s)) options.weigh options.slips text

-- the text is what a command asks for, by what it was given, its options and what its files mean
abbrev pub IsTextBy : Command → PlainArguments → Options → Meant → List ℕ → Type 0
IsTextBy (OfGrammar command) arguments options (Grammar file) text = IsTextOfGrammar command file text
IsTextBy (OfPair command) arguments options (Pair pair) text = IsTextOfPair command options pair.yacc (scanning_of pair.lex) text
IsTextBy Gen (Number seed) options Nothing text = IsSummary seed text
IsTextBy Member arguments options (Text beside) text =
    (tokens : List ℕ) × Scans (scanning_of beside.pair.lex) beside.text tokens
    × IsMemberText beside.pair.yacc.grammar tokens text
IsTextBy Check arguments options (Text beside) text =
    IsCheckText beside.pair.yacc (scanning_of beside.pair.lex) beside.text text
IsTextBy command arguments options meant text = ⊥

-- the contents of the files mean something within the command's limits, by which the text is asked for
abbrev pub IsTextOf : PlainRequest → List Content → List ℕ → Type 0
IsTextOf request contents text =
    (meant : Meant) × Mean contents meant × IsWithin meant request.command
    × IsTextBy request.command request.arguments request.options meant text

-- the text is what is asked for
abbrev pub IsTextFor : Option Files → PlainRequest → List ℕ → Type 0
IsTextFor files request text = HaveContents files (files_of request) (λ contents. IsTextOf request contents text)

abbrev pub IsAskedText : Result PlainRequest ℕ → Option Files → List ℕ → Type 0
IsAskedText asked files text = IsOkAnd asked (λ request. IsTextFor files request text)

-- ---- what `check` denies

-- no text does
abbrev pub NoneDenies : List ℕ → Type 0
NoneDenies text = ⊥

-- the text says no: one that `check` writes of a manifest that has a line with a fault
abbrev pub Denies : Command → List ℕ → Type 0
Denies Check = IsDenial
Denies command = NoneDenies

-- the text of what the words ask for does
abbrev pub DeniesAsked : Result PlainRequest ℕ → List ℕ → Type 0
DeniesAsked asked text = IsOkAnd asked (λ request. Denies request.command text)

-- a text is asked for that does
abbrev pub IsDenied : Result PlainRequest ℕ → Option Files → Type 0
IsDenied asked files = (text : List ℕ) × IsAskedText asked files text × DeniesAsked asked text

-- ---- room and laws

-- each text that may be asked for fits
abbrev pub HasRoomFor : ℕ → Result PlainRequest ℕ → Option Files → Type 0
HasRoomFor room asked files = (text : List ℕ) → IsAskedText asked files text → length text ≤ room

-- the desk tells its files, or none are asked for
abbrev pub AreTold : Option Files → Result PlainRequest ℕ → Type 0
AreTold files asked = IsSome files ⊎ IsOkAnd asked (λ request. files_of request ≡ [])

-- one text at most is asked for by given contents: `member` may tell of a list by each of its derivations
abbrev pub AskForOneText : Result PlainRequest ℕ → Type 0
AskForOneText asked = IsOkAnd asked (λ request. ¬ (request.command ≡ Member))

-- where the desk tells its files, or none are asked for, one text at most is asked for by such words
abbrev pub HasOneText : Result PlainRequest ℕ → Option Files → Type 0
HasOneText asked files = AreTold files asked → AskForOneText asked → AtMostOne (IsAskedText asked files)
