-- What the steps of reading answer.
use Rattle.std.specs.Prelude.{◌≡◌, ℕ, ◌*◌, ◌<◌, ◌≤◌, Option, Some, None, List, [], ◌∷◌, ◌++◌, All, length}
use Rattle.cs_pattern_parts.specs.declared.tree.pattern.Pattern.{Pattern}
use Rattle.cs_pattern_parts.specs.declared.kind.Kind.{Kind}
use Rattle.cs_pattern.specs.Text.Answers.{IsPatternOf, IsFault}
use Rattle.cs_pattern.specs.Operations.Definitions as definitions
use Rattle.cs_pattern_parts.specs.Tree.Pattern.{Regex, regex, regexes, leaves}
use Rattle.cs_yacc.specs.Reading.File as tokens
use Rattle.cs_lex.specs.declared.layout.parts.Definition.{Definition}
use Rattle.cs_lex.specs.declared.layout.parts.Rule.{Rule}
use Rattle.cs_lex.specs.Actions.Kinds.{ActionKind, bar, IsKind}
use Rattle.cs_lex.specs.declared.reading.error.LexError.{LexError}
use Rattle.cs_lex.specs.declared.reading.error.LexError.TheVariants.{Limit, Memory}
use Rattle.cs_lex.specs.declared.reading.error.LexLimit.TheVariants.{Positions}
use Rattle.std.specs.Global.{Vec}
use Rattle.cs_lex.specs.declared.reading.error.LexError.TheVariants as errors
use Rattle.cs_lex.specs.declared.reading.patterns.Collected as code
use Rattle.cs_pattern_parts.specs.declared.kind.Kind.TheVariants.{Token, Foreign}
use Rattle.cs_lex.specs.Reading.Kinds.{action_of, Gives}
use Rattle.cs_lex.specs.Reading.Patterns.{pattern_of, HavePatterns, positions}
use Rattle.cs_lex.specs.Reading.Reading.{IsFaulty, IsFaultyDefinition, IsFirstFaulty}
use Rattle.cs_pattern_parts.specs.Tree.Scannable.{IsScannable}

-- the rules are refused, whatever the definitions are
abbrev pub RulesRefused : List ℕ → List Rule → LexError → Type 0
RulesRefused bytes rs error = (ds : List Definition) → IsFaulty bytes ds rs error

-- a pattern of which an automaton can be made, within the limit
pub record IsRulePattern (ds : List definitions.Definition) (text : List ℕ) (pattern : Regex) : Type 0 where
  pub is : IsPatternOf ds text pattern
  pub scannable : IsScannable pattern
  pub few : leaves pattern ≤ 8192

abbrev pub ReadsRule : List definitions.Definition → List ℕ → Rule → Pattern → Type 0
ReadsRule ds bytes r pattern = IsRulePattern ds (pattern_of bytes r) (regex pattern)

-- the pattern of the rule is refused so; memory may run out
abbrev pub RefusesRule : List definitions.Definition → List ℕ → Rule → LexError → Type 0
RefusesRule ds bytes r (errors.Pattern at fault) = (at ≡ r.pattern.from) × IsFault (pattern_of bytes r) ds fault
RefusesRule ds bytes r Memory = Unit {0}
RefusesRule ds bytes r error = ⊥

-- the definitions are refused so; memory may run out
abbrev pub RefusesSubstitute : List ℕ → List Definition → LexError → Type 0
RefusesSubstitute bytes ds (errors.Pattern at fault) = (d : Definition) × IsFaultyDefinition bytes ds d fault × (at ≡ d.substitute.from)
RefusesSubstitute bytes ds Memory = Unit {0}
RefusesSubstitute bytes ds error = ⊥

-- The rules have patterns, which have so many leaves together, and which are there where these are few enough.
pub record HaveFound (ds : List definitions.Definition) (bytes : List ℕ) (rs : List Rule) (kept : List Pattern) (count : ℕ) : Type 0 where
  pub patterns : List Regex
  pub have : HavePatterns ds bytes rs patterns
  pub scannable : All IsScannable patterns
  pub counted : count ≡ positions patterns
  pub are_kept : count ≤ 16384 → regexes kept ≡ patterns
  pub few : count ≤ 8192 * length rs

abbrev pub HasCollected : List definitions.Definition → List ℕ → List Rule → code.Collected → Type 0
HasCollected ds bytes rs found = HaveFound ds bytes rs found.patterns.items found.leaves

-- the first rule whose pattern is refused is refused so; memory may run out
abbrev pub RefusesSome : List definitions.Definition → List ℕ → List Rule → LexError → Type 0
RefusesSome ds bytes rs (errors.Pattern at fault) = (r : Rule) × IsFirstFaulty ds bytes rs r fault × (at ≡ r.pattern.from)
RefusesSome ds bytes rs Memory = Unit {0}
RefusesSome ds bytes rs error = ⊥

-- the patterns are those that were collected, which are within the limit
abbrev pub IsWithin : code.Collected → Vec Pattern → Type 0
IsWithin found patterns = (found.leaves ≤ 16384) × (patterns.items ≡ found.patterns.items)

abbrev pub RefusesPositions : code.Collected → LexError → Type 0
RefusesPositions found error = (16384 < found.leaves) × (error ≡ Limit Positions found.leaves 16384)

abbrev pub GivesNamed : Option ℕ → Kind → Type 0
GivesNamed (Some token) kind = kind ≡ Token token
GivesNamed None kind = kind ≡ Foreign

-- The rule has the kind, where the rules behind it have kinds, the first of which is this one, or there is none and the rule
-- hasn't the action `|`.
pub record GivesOver (file : tokens.File) (bytes : List ℕ) (r : Rule) (next kind : Kind) : Type 0 where
  pub action : ActionKind
  pub is_kind : IsKind (action_of bytes r) action
  pub over : (rest : List Kind) → Gives file action (next ∷ rest) kind
  pub alone : (action ≡ bar → ⊥) → Gives file action [] kind

-- the pattern comes last, where so many leaves are within the limit
abbrev pub Keeps : ℕ → Vec Pattern → Vec Pattern → Pattern → Type 0
Keeps count old new pattern = count ≤ 16384 → new.items ≡ old.items ++ pattern ∷ []
