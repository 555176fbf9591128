-- What accepted words ask for.
use Rattle.std.specs.Prelude.{◌≡◌, ℕ, List, [], ◌∷◌, ◌++◌, Result, Ok, Err, String, length}
use Rattle.std.specs.declared.alloc.Global.{Global}
use Rattle.cs_words.specs.declared.command.Command.{Command}
use Rattle.cs_words.specs.declared.command.Role.{Role}
use Rattle.cs_words.specs.declared.command.Role.TheVariants.{Lex, Yacc}
use Rattle.cs_words.specs.declared.options.Options.{Options}
use Rattle.cs_words.specs.declared.request.Arguments.{Arguments}
use Rattle.cs_words.specs.declared.request.Arguments.TheVariants as given
use Rattle.cs_words.specs.declared.request.Request.{Request}
use Rattle.cs_words.specs.Commands.{Files, Seed, Taken, command_word, taken_of}
use Rattle.cs_words.specs.Options.{AreNew, AreOptions}
use Rattle.cs_words.specs.Values.{IsSeed}
use Rattle.cs_words.specs.Words.{IsAccepted, IsFirstBad, texts}

-- what a command was given, as plain data: the names of its files, or a number
pub data PlainArguments : Type 0 where
  Names : List (List ℕ) → PlainArguments
  Number : ℕ → PlainArguments

-- a command, what it was given, and its options
pub record PlainRequest : Type 0 where
  pub command : Command
  pub arguments : PlainArguments
  pub options : Options

-- the words are what the command takes, and give this
abbrev pub AreArguments : Taken → List (List ℕ) → PlainArguments → Type 0
AreArguments (Files roles) words (Names names) = (words ≡ names) × (length names ≡ length roles)
AreArguments Seed words (Number number) = (word : List ℕ) × (words ≡ word ∷ []) × IsSeed word number
AreArguments taken words arguments = ⊥

-- as many names as the command has roles, or a number for one that takes a seed
abbrev pub Fit : Taken → PlainArguments → Type 0
Fit (Files roles) (Names names) = length names ≡ length roles
Fit Seed (Number number) = Unit {0}
Fit taken arguments = ⊥

abbrev pub IsFitting : PlainRequest → Type 0
IsFitting request = Fit (taken_of request.command) request.arguments

-- The words ask for it: the command's word, then what it takes, then its options, each of them new.
pub record AskFor (words : List (List ℕ)) (request : PlainRequest) : Type 0 where
  pub behind : List (List ℕ)
  pub rest : List (List ℕ)
  pub split : words ≡ command_word request.command ∷ behind ++ rest
  pub arguments : AreArguments (taken_of request.command) behind request.arguments
  pub stand : AreNew request.command [] rest
  pub options : AreOptions rest request.options

-- the words are accepted and ask for it, or this is the place of the first bad one
abbrev pub IsAsked : List (List ℕ) → Result PlainRequest ℕ → Type 0
IsAsked words (Ok request) = IsAccepted words × AskFor words request
IsAsked words (Err at) = IsFirstBad words at

-- ---- files

-- a file that is asked for: what it is to the command, and its name
pub record Named : Type 0 where
  pub role : Role
  pub name : List ℕ

abbrev pub yacc_named : List ℕ → Named
yacc_named name = record { role = Yacc; name = name }

abbrev pub lex_named : List ℕ → Named
lex_named name = record { role = Lex; name = name }

-- each name with its role
abbrev pub with_roles : List Role → List (List ℕ) → List Named
with_roles [] names = []
with_roles (role ∷ roles) [] = []
with_roles (role ∷ roles) (name ∷ names) = record { role = role; name = name } ∷ with_roles roles names

-- the files that the command takes, in the order in which they are read
abbrev pub files_taken : Taken → PlainArguments → List Named
files_taken (Files roles) (Names names) = with_roles roles names
files_taken taken arguments = []

abbrev pub files_of : PlainRequest → List Named
files_of request = files_taken (taken_of request.command) request.arguments

-- a yacc file; a yacc file and a lex file
abbrev pub one_named : List ℕ → List Named
one_named yacc = yacc_named yacc ∷ []

abbrev pub two_named : List ℕ → List ℕ → List Named
two_named yacc lex = yacc_named yacc ∷ lex_named lex ∷ []

-- and a third file
abbrev pub third_named : Role → List ℕ → Named
third_named role name = record { role = role; name = name }

abbrev pub three_named : Role → List ℕ → List ℕ → List ℕ → List Named
three_named role yacc lex third = yacc_named yacc ∷ lex_named lex ∷ third_named role third ∷ []

-- ---- the same of what was read

abbrev pub plain_arguments : Arguments → PlainArguments
plain_arguments (given.Files names) = Names (texts names.now)
plain_arguments (given.Seed number) = Number number

abbrev pub request_with : Command → PlainArguments → Options → PlainRequest
request_with command arguments options = record { command = command; arguments = arguments; options = options }

abbrev pub plain_request : Request → PlainRequest
plain_request request = request_with request.command (plain_arguments request.arguments) request.options

abbrev pub files_in : Request → List Named
files_in request = files_of (plain_request request)

-- a command's word, and the words behind it
abbrev pub all_words : Command → List (String Global) → List (List ℕ)
all_words command words = command_word command ∷ texts words

-- the files of a command by their names
abbrev pub files_named : Command → List (String Global) → List Named
files_named command names = files_taken (taken_of command) (Names (texts names))

-- the words ask for what was read
abbrev pub AskForIt : List (List ℕ) → Request → Type 0
AskForIt words request = AskFor words (plain_request request)
