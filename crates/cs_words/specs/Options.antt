-- The options of commands: a mark and a value, in any order, each at most once.
use Rattle.std.specs.Prelude.{◌≡◌, ℕ, Option, None, Some, List, [], ◌∷◌, ◌++◌, true, Contains, IsTrue, codes, unwrap_or}
use Rattle.cs_words.specs.declared.command.Command.{Command}
use Rattle.cs_words.specs.declared.setting.Kind.{Kind}
use Rattle.cs_words.specs.declared.setting.Kind.TheVariants as kind
use Rattle.cs_words.specs.declared.setting.Setting.{Setting}
use Rattle.cs_choices.specs.declared.format.Format.TheVariants.{Two}
use Rattle.cs_choices.specs.declared.weigh.Weigh.TheVariants.{Nodes}
use Rattle.cs_words.specs.declared.setting.Setting.TheVariants.{Cover, Mutate, Bases, Separate, Weigh, Format, Slip, First}
use Rattle.cs_words.specs.declared.options.Options.{Options}
use Rattle.cs_words.specs.Commands.{may_have}
use Rattle.cs_words.specs.Choices.{IsCriteria, IsFormat, IsOperators, IsSlips, IsWeigh}
use Rattle.cs_words.specs.Values.{IsBases, IsFirst, IsSeparator}

-- ---- one option

-- what a setting is about
abbrev pub kind_of : Setting → Kind
kind_of (Cover criteria) = kind.Criteria
kind_of (Mutate operators) = kind.Mutate
kind_of (Bases number) = kind.Bases
kind_of (Separate separator) = kind.Separator
kind_of (Weigh weigh) = kind.Weigh
kind_of (Format format) = kind.Format
kind_of (Slip slips) = kind.Slips
kind_of (First number) = kind.First

-- what stands in front of the value, for each kind
abbrev pub mark_for : Kind → List ℕ
mark_for kind.Criteria = codes "--criteria="
mark_for kind.Mutate = codes "--mutate="
mark_for kind.Bases = codes "--bases="
mark_for kind.Separator = codes "--separator="
mark_for kind.Weigh = codes "--weigh="
mark_for kind.Format = codes "--format="
mark_for kind.Slips = codes "--slips="
mark_for kind.First = codes "--first="

abbrev pub mark_of : Setting → List ℕ
mark_of setting = mark_for (kind_of setting)

-- the value gives the setting
abbrev pub IsValueOf : Setting → List ℕ → Type 0
IsValueOf (Cover criteria) value = IsCriteria value criteria
IsValueOf (Mutate operators) value = IsOperators value operators
IsValueOf (Bases number) value = IsBases value number
IsValueOf (Separate separator) value = IsSeparator value separator
IsValueOf (Weigh weigh) value = IsWeigh value weigh
IsValueOf (Format format) value = IsFormat value format
IsValueOf (Slip slips) value = IsSlips value slips
IsValueOf (First number) value = IsFirst value number

-- the word is an option with this setting
pub record IsOption (word : List ℕ) (setting : Setting) : Type 0 where
  pub value : List ℕ
  pub spelled : word ≡ mark_of setting ++ value
  pub gives : IsValueOf setting value

-- ---- several

-- the word begins with the mark
abbrev pub IsMarked : List ℕ → List ℕ → Type 0
IsMarked mark word = (value : List ℕ) × (word ≡ mark ++ value)

-- no word begins with the mark
abbrev pub LacksMark : List ℕ → List (List ℕ) → Type 0
LacksMark mark words = (word : List ℕ) → Contains words word → ¬ IsMarked mark word

-- The word is an option that the command may have, and that none of the words before it gives.
pub record IsNewOption (command : Command) (before : List (List ℕ)) (word : List ℕ) : Type 0 where
  pub setting : Setting
  pub is : IsOption word setting
  pub had : IsTrue (may_have command (kind_of setting))
  pub is_new : LacksMark (mark_of setting) before

-- behind these options each of the words is one that the command may have, and that none before it gives
abbrev pub AreNew : Command → List (List ℕ) → List (List ℕ) → Type 0
AreNew command before [] = Unit {0}
AreNew command before (word ∷ words) = IsNewOption command before word × AreNew command (before ++ word ∷ []) words

-- what the words say of a kind of setting: Some where one of them is such an option, None where none has its mark
abbrev pub Give : {A : Type 0} → List ℕ → (A → Setting) → List (List ℕ) → Option A → Type 0
Give mark setting words None = LacksMark mark words
Give mark setting words (Some value) = (word : List ℕ) × Contains words word × IsOption word (setting value)

-- the value that the words give, or the default where they give none
abbrev pub GiveOr : {A : Type 0} → A → List ℕ → (A → Setting) → List (List ℕ) → A → Type 0
GiveOr {A} default mark setting words value =
    (given : Option A) × Give mark setting words given × (value ≡ unwrap_or given default)

-- the defaults: all criteria, all operators, 16 bases, one space, nodes, the second format, all slips, and all negatives
abbrev pub default_options : Options
default_options = record {
  criteria = record { rule = true; cdrc = true; pair = true };
  operators = record { delete = true; insert = true; replace = true; swap = true };
  bases = 16;
  separator = 32 ∷ [];
  weigh = Nodes;
  format = Two;
  slips = record { drops = true; doubles = true; swaps = true };
  first = None;
}

-- Words stand for these options; those that they don't give have their defaults.
pub record AreOptions (words : List (List ℕ)) (options : Options) : Type 0 where
  pub criteria : GiveOr default_options.criteria (codes "--criteria=") Cover words options.criteria
  pub operators : GiveOr default_options.operators (codes "--mutate=") Mutate words options.operators
  pub bases : GiveOr default_options.bases (codes "--bases=") Bases words options.bases
  pub separator : GiveOr default_options.separator (codes "--separator=") Separate words options.separator
  pub weigh : GiveOr default_options.weigh (codes "--weigh=") Weigh words options.weigh
  pub format : GiveOr default_options.format (codes "--format=") Format words options.format
  pub slips : GiveOr default_options.slips (codes "--slips=") Slip words options.slips
  pub first : Give (codes "--first=") First words options.first
