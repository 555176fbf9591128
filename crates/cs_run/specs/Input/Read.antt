-- What was read.
use Rattle.std.specs.Prelude.{◌+◌, ◌≤◌, ℕ, List, Option, Vec, length}
use Rattle.std.specs.declared.alloc.Global.{Global}
use Rattle.cs_io.specs.Desk.{Files, IsBeginning}
use Rattle.cs_run.specs.declared.input.judging.Meant.{Meant}
use Rattle.cs_run.specs.declared.input.judging.Meant.TheVariants.{Grammar, Pair as PairOf, Text}
use Rattle.cs_words.specs.declared.command.Command.{Command}
use Rattle.cs_words.specs.declared.command.Command.TheVariants.{Check}
use Rattle.cs_words.specs.declared.command.Role.TheVariants as roles
use Rattle.cs_lex.specs.Reading.File.{HasTokensOf}
use Rattle.cs_yacc.specs.declared.reading.file.YaccFile.{YaccFile}
use Rattle.cs_run.specs.declared.input.judging.Pair.{Pair}
use Rattle.cs_run.specs.declared.input.judging.PairAndText.{PairAndText}
use Rattle.cs_words.specs.declared.command.Role.{Role}
use Rattle.cs_words.specs.declared.request.Request.{Request}
use Rattle.cs_run.specs.Input.Refusal.{text_contents}
use Rattle.cs_run.specs.Input.Files.{HaveContents, IsMeantFor, Mean, most_for}
use Rattle.cs_words.specs.Commands.{taken_of}
use Rattle.cs_words.specs.Requests.{Named, one_named, plain_arguments, three_named, two_named}

-- what the third file is to a command that takes three
abbrev pub third_role : Command → Role
third_role Check = roles.Manifest
third_role command = roles.Text

-- the first bytes of the file, at most one more than a file may have
abbrev pub ReadsFile : Role → Option Files → List ℕ → Vec ℕ Global → Type 0
ReadsFile role files name bytes = IsBeginning files name (most_for role + 1) bytes.items

-- the files are there, and their contents mean this
abbrev pub AreMeant : Option Files → List Named → Meant → Type 0
AreMeant files named meant = HaveContents files named (λ contents. Mean contents meant)

-- the yacc file of that name means this; it and the lex file of that name mean these
abbrev pub IsGrammarIn : Option Files → List ℕ → YaccFile → Type 0
IsGrammarIn files name file = AreMeant files (one_named name) (Grammar file)

abbrev pub IsPairIn : Option Files → List ℕ → List ℕ → Pair → Type 0
IsPairIn files name other pair = AreMeant files (two_named name other) (PairOf pair)

abbrev pub IsTextIn : Role → Option Files → List ℕ → List ℕ → List ℕ → PairAndText → Type 0
IsTextIn role files name other third beside = AreMeant files (three_named role name other third) (Text beside)

-- what is meant is what the request's command is given
abbrev pub IsFormOf : Request → Meant → Type 0
IsFormOf request meant = IsMeantFor (taken_of request.command) (plain_arguments request.arguments) meant

-- the tokens of the scanner are those of the yacc file
abbrev pub HasItsTokens : Meant → Type 0
HasItsTokens (PairOf pair) = HasTokensOf (length pair.yacc.token_names) pair.lex
HasItsTokens (Text beside) = HasTokensOf (length beside.pair.yacc.token_names) beside.pair.lex
HasItsTokens meant = Unit {0}

-- a third file has no more bytes than the longest may have
abbrev pub HasShortText : Meant → Type 0
HasShortText (Text beside) = length beside.text ≤ 67108864
HasShortText meant = Unit {0}

-- what these bytes mean
abbrev pub IsTextOfAll : Role → List ℕ → List ℕ → Vec ℕ Global → PairAndText → Type 0
IsTextOfAll role bytes more text beside = Mean (text_contents role bytes more text.items) (Text beside)

abbrev pub HasTokensOfItsFile : PairAndText → Type 0
HasTokensOfItsFile beside = HasItsTokens (Text beside)
