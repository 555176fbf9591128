-- The grammar of words: which word may stand behind which.
use Rattle.std.specs.Prelude.{◌≡◌, ◌≤◌, ◌==◌, ℕ, zero, suc, Bool, false, not, List, [], ◌∷◌, ◌++◌, String, IsTrue, length, map, string_bytes}
use Rattle.std.specs.declared.alloc.Global.{Global}
use Rattle.cs_bytes.specs.Names.{dash}
use Rattle.cs_words.specs.declared.command.Command.{Command}
use Rattle.cs_words.specs.Commands.{Files, Seed, Taken, command_word, taken_count, taken_of}
use Rattle.cs_words.specs.Options.{IsNewOption}
use Rattle.cs_words.specs.Values.{SpellsSeed}

-- the words as bytes
abbrev pub texts : List (String Global) → List (List ℕ)
texts words = map (λ word. string_bytes word) words

-- ---- one word behind others

-- some command's word
abbrev pub IsCommand : List ℕ → Type 0
IsCommand word = (command : Command) × (word ≡ command_word command)

-- a file's name isn't empty and doesn't begin with `-`
abbrev pub is_name : List ℕ → Bool
is_name [] = false
is_name (first ∷ rest) = not (first == dash)

-- a command that takes files takes names, and one that takes a seed takes digits
abbrev pub MayBeTaken : Taken → List ℕ → Type 0
MayBeTaken (Files roles) word = IsTrue (is_name word)
MayBeTaken Seed word = SpellsSeed word

-- behind a command and these words, of which it takes so many: something that it takes, and then its options
abbrev pub MayFollow : Command → ℕ → List (List ℕ) → List ℕ → Type 0
MayFollow command zero before word = IsNewOption command before word
MayFollow command (suc count) [] word = MayBeTaken (taken_of command) word
MayFollow command (suc count) (taken ∷ before) word = MayFollow command count before word

-- behind a command's word and these words
abbrev pub MayStandBehind : Command → List (List ℕ) → List ℕ → Type 0
MayStandBehind command before word = MayFollow command (taken_count (taken_of command)) before word

-- The word may stand directly behind these words: a command behind none, then what the command takes, then its options.
abbrev pub MayStand : List (List ℕ) → List ℕ → Type 0
MayStand [] word = IsCommand word
MayStand (first ∷ before) word = (command : Command) × (first ≡ command_word command) × MayStandBehind command before word

-- ---- all words

-- each of the words may stand behind those in front of it and those before them
abbrev pub StandBehind : List (List ℕ) → List (List ℕ) → Type 0
StandBehind before [] = Unit {0}
StandBehind before (word ∷ words) = MayStand before word × StandBehind (before ++ word ∷ []) words

-- nothing that the command takes is missing
abbrev pub IsComplete : List (List ℕ) → Type 0
IsComplete [] = ⊥
IsComplete (first ∷ words) = (command : Command) × (first ≡ command_word command) × (taken_count (taken_of command) ≤ length words)

-- Each word may stand where it stands, and none is missing.
pub record IsAccepted (words : List (List ℕ)) : Type 0 where
  pub stand : StandBehind [] words
  pub complete : IsComplete words

-- what stands behind these words can't go on so: a word that may not stand there, or nothing where a word is missing
abbrev pub CannotGoOn : List (List ℕ) → List (List ℕ) → Type 0
CannotGoOn before [] = ¬ IsComplete before
CannotGoOn before (word ∷ after) = ¬ MayStand before word

-- The words before the place may stand where they stand, and what is behind them can't go on so.
pub record IsFirstBad (words : List (List ℕ)) (at : ℕ) : Type 0 where
  pub before : List (List ℕ)
  pub after : List (List ℕ)
  pub split : words ≡ before ++ after
  pub place : length before ≡ at
  pub stand : StandBehind [] before
  pub bad : CannotGoOn before after

-- no place is bad
abbrev pub HasNoBad : List (List ℕ) → Type 0
HasNoBad words = (at : ℕ) → IsFirstBad words at → ⊥
