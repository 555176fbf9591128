-- Working words of the proofs: what is read step by step.
use Rattle.std.specs.Prelude.{◌≡◌, ◌<◌, ◌⊎◌, ◌||◌, ℕ, Bool, true, false, List, [], ◌∷◌, ◌++◌, None, Some, IsSome, IsTrue, String, bytes_eq, length, unwrap_or}
use Rattle.std.specs.declared.alloc.Global.{Global}
use Rattle.cs_words.specs.declared.options.Options.{Options}
use Rattle.cs_words.specs.declared.given.Given.{Given}
use Rattle.cs_words.specs.declared.setting.Setting.{Setting}
use Rattle.cs_words.specs.declared.setting.Setting.TheVariants.{Cover, Mutate, Bases, Separate, Weigh, Format, Slip, First}
use Rattle.cs_words.specs.Options.{AreNew, IsNewOption, default_options}
use Rattle.cs_words.specs.Values.{IsSeed, SpellsByte, SpellsSeed}
use Rattle.cs_words.specs.declared.command.Command.TheVariants.{Check, Gen, Member, OfGrammar, OfPair}
use Rattle.cs_words.specs.declared.command.GrammarCommand.{GrammarCommand}
use Rattle.cs_words.specs.declared.command.PairCommand.{PairCommand}
use Rattle.cs_words.specs.Commands.{Taken, grammar_word, pair_word, taken_count, taken_of}
use Rattle.cs_words.specs.declared.request.Taken as request
use Rattle.cs_words.specs.Requests.{AreArguments, PlainArguments, plain_arguments}
use Rattle.cs_words.specs.Words.{MayBeTaken, is_name, texts}
use Rattle.cs_words.specs.declared.command.Command.{Command}

-- ---- lists of names

-- one more name is chosen, which wasn't
pub record Adds (chosen : List ℕ → Bool) (name : List ℕ) (more : List ℕ → Bool) : Type 0 where
  pub was : chosen name ≡ false
  pub now : (other : List ℕ) → more other ≡ (chosen other || bytes_eq other name)

-- the name is chosen, or no choice has it
abbrev pub CannotAdd : {A : Type 0} → (A → List ℕ → Bool) → A → List ℕ → Type 0
CannotAdd {A} chosen choice name = (chosen choice name ≡ true) ⊎ ((other : A) → chosen other name ≡ false)

-- ---- options

-- something of the setting's kind is said
abbrev pub HasKind : Given → Setting → Type 0
HasKind given (Cover criteria) = IsSome given.criteria
HasKind given (Mutate operators) = IsSome given.operators
HasKind given (Bases bases) = IsSome given.bases
HasKind given (Separate separator) = IsSome given.separator
HasKind given (Weigh weigh) = IsSome given.weigh
HasKind given (Format format) = IsSome given.format
HasKind given (Slip slips) = IsSome given.slips
HasKind given (First number) = IsSome given.first

-- the setting is new, and said now
abbrev pub Sets : Given → Setting → Given → Type 0
Sets old (Cover criteria) new = (old.criteria ≡ None) × (new ≡ record old { criteria = Some criteria })
Sets old (Mutate operators) new = (old.operators ≡ None) × (new ≡ record old { operators = Some operators })
Sets old (Bases bases) new = (old.bases ≡ None) × (new ≡ record old { bases = Some bases })
Sets old (Separate separator) new = (old.separator ≡ None) × (new ≡ record old { separator = Some separator })
Sets old (Weigh weigh) new = (old.weigh ≡ None) × (new ≡ record old { weigh = Some weigh })
Sets old (Format format) new = (old.format ≡ None) × (new ≡ record old { format = Some format })
Sets old (Slip slips) new = (old.slips ≡ None) × (new ≡ record old { slips = Some slips })
Sets old (First number) new = (old.first ≡ None) × (new ≡ record old { first = Some number })

abbrev pub IsNothing : Given → Type 0
IsNothing given = given ≡ record { criteria = None; operators = None; bases = None; separator = None; weigh = None; format = None; slips = None; first = None }

-- the options are what is said, and defaults for the rest
pub record AreDefaulted (given : Given) (options : Options) : Type 0 where
  pub criteria : options.criteria ≡ unwrap_or given.criteria default_options.criteria
  pub operators : options.operators ≡ unwrap_or given.operators default_options.operators
  pub bases : options.bases ≡ unwrap_or given.bases default_options.bases
  pub separator : options.separator ≡ unwrap_or given.separator default_options.separator
  pub weigh : options.weigh ≡ unwrap_or given.weigh default_options.weigh
  pub format : options.format ≡ unwrap_or given.format default_options.format
  pub slips : options.slips ≡ unwrap_or given.slips default_options.slips
  pub first : options.first ≡ given.first

-- ---- which of two commands with one word is chosen

-- whether a second name stands there
abbrev pub has_second_name : List (List ℕ) → Bool
has_second_name [] = false
has_second_name (first ∷ []) = false
has_second_name (first ∷ second ∷ words) = is_name second

-- Where a second name stands, of two commands with one word it is the one that takes a lex file, and else the other.
abbrev pub IsChosenBy : Bool → Command → Type 0
IsChosenBy long (OfGrammar command) = (other : PairCommand) → grammar_word command ≡ pair_word other → long ≡ false
IsChosenBy long (OfPair command) = (other : GrammarCommand) → grammar_word other ≡ pair_word command → long ≡ true
IsChosenBy long Member = Unit {0}
IsChosenBy long Check = Unit {0}
IsChosenBy long Gen = Unit {0}

-- by the words behind its own
abbrev pub IsChosenFor : Command → List (List ℕ) → Type 0
IsChosenFor command words = IsChosenBy (has_second_name words) command

-- ---- options that stand behind what a command takes

module _ (command : Command) where
  -- What stands behind these options can't go on so. Where nothing does, it can.
  abbrev pub Stops : List (List ℕ) → List (List ℕ) → Type 0
  Stops before [] = ⊥
  Stops before (word ∷ after) = IsNewOption command before word → ⊥

  -- the options before the place are new, and what is behind them can't go on so
  pub record StopsAt (words : List (List ℕ)) (at : ℕ) : Type 0 where
    pub before : List (List ℕ)
    pub after : List (List ℕ)
    pub split : words ≡ before ++ after
    pub place : length before ≡ at
    pub stand : AreNew command [] before
    pub stops : Stops before after

-- ---- what a command takes

-- the words may be names
abbrev pub AreNames : List (List ℕ) → Type 0
AreNames [] = Unit {0}
AreNames (word ∷ words) = IsTrue (is_name word) × AreNames words

-- the words may be taken
abbrev pub MayAllBeTaken : Taken → List (List ℕ) → Type 0
MayAllBeTaken taken [] = Unit {0}
MayAllBeTaken taken (word ∷ words) = MayBeTaken taken word × MayAllBeTaken taken words

-- nothing that may be taken stands in front
abbrev pub LacksTaken : Taken → List (List ℕ) → Type 0
LacksTaken taken [] = Unit {0}
LacksTaken taken (word ∷ words) = MayBeTaken taken word → ⊥

-- in front stand the words, so many, that the command takes
pub record BeginsWith (command : Command) (words : List (List ℕ)) (arguments : PlainArguments) (count : ℕ) (rest : List (List ℕ)) : Type 0 where
  pub behind : List (List ℕ)
  pub split : words ≡ behind ++ rest
  pub counted : length behind ≡ count
  pub all : count ≡ taken_count (taken_of command)
  pub taken : MayAllBeTaken (taken_of command) behind
  pub are : AreArguments (taken_of command) behind arguments

-- what was taken stands in front of the words
abbrev pub IsTakenFrom : Command → List (String Global) → request.Taken → Type 0
IsTakenFrom command words taken =
    BeginsWith command (texts words) (plain_arguments taken.arguments) taken.count (texts taken.rest.now)

-- the words before the place are some of those that the command takes, and there it lacks one
pub record LacksAt (command : Command) (words : List (List ℕ)) (at : ℕ) : Type 0 where
  pub before : List (List ℕ)
  pub after : List (List ℕ)
  pub split : words ≡ before ++ after
  pub place : length before ≡ at
  pub short : at < taken_count (taken_of command)
  pub taken : MayAllBeTaken (taken_of command) before
  pub lacks : LacksTaken (taken_of command) after

-- no name stands in front
abbrev pub LacksName : List (List ℕ) → Type 0
LacksName [] = Unit {0}
LacksName (word ∷ words) = is_name word ≡ false

-- a seed stands in front, and these words behind it
abbrev pub BeginsWithSeed : List (List ℕ) → ℕ → List (List ℕ) → Type 0
BeginsWithSeed words seed rest = (word : List ℕ) × (words ≡ word ∷ rest) × IsSeed word seed

-- no seed stands in front
abbrev pub LacksSeed : List (List ℕ) → Type 0
LacksSeed [] = Unit {0}
LacksSeed (word ∷ words) = ¬ SpellsSeed word

-- ---- separators

-- no byte is spelled in front
abbrev pub LacksSpelling : List ℕ → Type 0
LacksSpelling text = (spelling rest : List ℕ) (byte : ℕ) → text ≡ spelling ++ rest → SpellsByte spelling byte → ⊥
