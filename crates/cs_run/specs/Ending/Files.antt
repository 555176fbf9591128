-- Which files are accepted and refused, and the manifests of accepted ones. Where the desk tells no files, any contents count.
use Rattle.std.specs.Prelude.{◌≡◌, ◌⊎◌, ◌<◌, ◌≤◌, ℕ, List, Option, IsTrue, Some, length}
use Rattle.cs_chain.specs.Chains.Chains.{chains}
use Rattle.cs_grammar.specs.Grammar.{PlainGrammar}
use Rattle.cs_io.specs.Desk.{Files}
use Rattle.cs_scanner.specs.Scan.Scan.{Scanning, Scans, StopsAt}
use Rattle.cs_io.specs.Uses.{Change}
use Rattle.cs_yacc.specs.Reading.File as yacc
use Rattle.cs_lex.specs.Reading.File as lex
use Rattle.cs_words.specs.declared.command.Command.{Command}
use Rattle.cs_words.specs.declared.command.Role.{Role}
use Rattle.cs_words.specs.declared.options.Options.{Options}
use Rattle.cs_words.specs.Commands.{lists_chains, takes_tokens}
use Rattle.cs_words.specs.Requests.{PlainRequest, files_of}
use Rattle.cs_run.specs.declared.input.judging.Meant.{Meant}
use Rattle.cs_run.specs.declared.input.judging.Meant.TheVariants.{Grammar, Nothing, Pair, Text}
use Rattle.cs_run.specs.declared.input.judging.PairAndText.{PairAndText}
use Rattle.cs_run.specs.declared.input.refusal.Refusal.{Refusal}
use Rattle.cs_run.specs.declared.input.refusal.Refusal.TheVariants.{ManyChains, States, TextStops, TextTokens}
use Rattle.cs_choices.specs.declared.format.Format.TheVariants.{One}
use Rattle.cs_run.specs.Input.Files.{Content, HasNoFile, HaveContents, IsPairOf, Mean}
use Rattle.cs_run.specs.Input.Refusal.{HasManyStates, Refuses}
use Rattle.cs_manifest.specs.Manifest.Manifest.{Choice, IsManifest, Texts}

-- ---- accepted and refused

-- what a scanner of the lex file scans by
abbrev pub scanning_of : lex.File → Scanning
scanning_of scanner = record { patterns = scanner.patterns; kinds = scanner.kinds; literals = scanner.literals }

-- where the command lists the chains of the grammar, these are at most 1,000,000
abbrev pub HasFewChains : Command → PlainGrammar → Type 0
HasFewChains command g = IsTrue (lists_chains command) → length (chains g) ≤ 1000000

-- the command lists them, and these are so many, which is more
abbrev pub HasManyChains : Command → PlainGrammar → ℕ → Type 0
HasManyChains command g found = IsTrue (lists_chains command) × (found ≡ length (chains g)) × (1000000 < found)

-- the text scans to so many tokens, one list of them
abbrev pub HasTokens : PairAndText → ℕ → Type 0
HasTokens beside count =
    (tokens : List ℕ) × Scans (scanning_of beside.pair.lex) beside.text tokens × (length tokens ≡ count)

-- it scans to at most 2,000 tokens
abbrev pub HasFewTokens : PairAndText → Type 0
HasFewTokens beside = (count : ℕ) × HasTokens beside count × (count ≤ 2000)

-- where the command takes the tokens of the text, these are few
abbrev pub HasFewTokensFor : Command → PairAndText → Type 0
HasFewTokensFor command beside = IsTrue (takes_tokens command) → HasFewTokens beside

-- What the files mean is within the command's limits.
abbrev pub IsWithin : Meant → Command → Type 0
IsWithin Nothing command = Unit {0}
IsWithin (Grammar file) command = HasFewChains command file.grammar
IsWithin (Pair pair) command = (¬ HasManyStates pair.lex) × HasFewChains command pair.yacc.grammar
IsWithin (Text beside) command = (¬ HasManyStates beside.pair.lex) × HasFewTokensFor command beside

-- It is beyond the limit that the refusal tells, and within those before it.
abbrev pub IsBeyond : Meant → Refusal → Command → Type 0
IsBeyond (Grammar file) (ManyChains found) command = HasManyChains command file.grammar found
IsBeyond (Pair pair) States command = HasManyStates pair.lex
IsBeyond (Pair pair) (ManyChains found) command = (¬ HasManyStates pair.lex) × HasManyChains command pair.yacc.grammar found
IsBeyond (Text beside) States command = HasManyStates beside.pair.lex
IsBeyond (Text beside) (TextStops at) command =
    (¬ HasManyStates beside.pair.lex) × IsTrue (takes_tokens command) × StopsAt (scanning_of beside.pair.lex) beside.text at
IsBeyond (Text beside) (TextTokens found) command =
    (¬ HasManyStates beside.pair.lex) × IsTrue (takes_tokens command) × HasTokens beside found × (2000 < found)
IsBeyond meant refusal command = ⊥

-- the contents mean something that is within the command's limits
abbrev pub Accepted : Command → List Content → Type 0
Accepted command contents = (meant : Meant) × Mean contents meant × IsWithin meant command

-- they are refused as they are read, or mean something that is beyond a limit
abbrev pub RefusesFor : Command → Refusal → List Content → Type 0
RefusesFor command refusal contents =
    Refuses refusal contents ⊎ ((meant : Meant) × Mean contents meant × IsBeyond meant refusal command)

-- the files that are asked for are accepted
abbrev pub AreAccepted : Option Files → PlainRequest → Type 0
AreAccepted files request = HaveContents files (files_of request) (Accepted request.command)

-- they are refused so
abbrev pub AreRefusedSo : Option Files → PlainRequest → Refusal → Type 0
AreRefusedSo files request refusal = HaveContents files (files_of request) (RefusesFor request.command refusal)

abbrev pub AreRefused : Option Files → PlainRequest → Type 0
AreRefused files request = (refusal : Refusal) × AreRefusedSo files request refusal

-- the file of that role can't be read
abbrev pub HasNoFileFor : Option Files → PlainRequest → Change ℕ → Role → Type 0
HasNoFileFor files request faults role = HasNoFile files faults (files_of request) role

-- ---- manifests

-- what texts are made by, with the options' separator
abbrev pub texts_by : Options → Scanning → Texts
texts_by options s = record { scanning = s; separator = options.separator }

-- what the options choose, by what is scanned by, and by the scanner of a lex file
abbrev pub choice_by : Options → Scanning → Choice
choice_by options s = record {
  criteria = options.criteria;
  texts = Some (texts_by options s);
  operators = options.operators;
  most = options.bases;
  first = options.first;
  format = options.format;
  weigh = options.weigh;
}

abbrev pub choice_of : lex.File → Options → Choice
choice_of scanner options = choice_by options (scanning_of scanner)

-- the same for `deep`, whose text is the same by both formats
abbrev pub deep_choice : Options → Scanning → Choice
deep_choice options s = record (choice_by options s) { format = One }

-- the text is the manifest of the pair of files that the bytes mean, by the options
unfoldable pub IsSuiteText : Options → List ℕ → List ℕ → List ℕ → Type 0
IsSuiteText options text bytes more =
    (file : yacc.File) × (scanner : lex.File) × IsPairOf file scanner bytes more × (¬ HasManyStates scanner)
    × IsManifest (choice_of scanner options) file text
