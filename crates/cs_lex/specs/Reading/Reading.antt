-- Which bytes are accepted as a lex file beside a yacc file, what file they mean, and why bytes are refused (POSIX lex).
use Rattle.std.specs.Prelude.{◌≡◌, ℕ, ◌<◌, ◌≤◌, List, [], ◌∷◌, ◌++◌, Some, length, slice_get}
use Rattle.cs_pattern.specs.declared.text.fault.PatternFault.{PatternFault}
use Rattle.cs_pattern.specs.Text.Answers.{IsFault}
use Rattle.cs_pattern.specs.Text.Checking.{AreAccepted, IsRefused}
use Rattle.cs_pattern.specs.Operations.Definitions as definitions
use Rattle.cs_pattern_parts.specs.Tree.Pattern.{Regex}
use Rattle.cs_yacc.specs.Reading.File as tokens
use Rattle.cs_lex.specs.declared.layout.error.LayoutError as layout
use Rattle.cs_lex.specs.declared.layout.parts.Definition.{Definition}
use Rattle.cs_lex.specs.declared.layout.parts.Rule.{Rule}
use Rattle.cs_lex.specs.Layout.Layout.{HasLayout, StopsWith}
use Rattle.cs_lex.specs.declared.reading.error.LexError.{LexError}
use Rattle.cs_lex.specs.declared.reading.error.LexError.TheVariants.{NoRules, DanglingBar, Limit, Pattern, Memory}
use Rattle.cs_lex.specs.declared.reading.error.LexLimit.TheVariants.{Rules, Positions}
use Rattle.cs_lex.specs.Reading.Errors.{error_of}
use Rattle.cs_lex.specs.Reading.File.{File}
use Rattle.cs_lex.specs.Reading.Kinds.{IsBarRule, HaveKinds}
use Rattle.cs_lex.specs.Reading.Patterns.{all_spelled, pattern_of, HavePatterns, positions}
use Rattle.cs_lex.specs.Reading.Tokens.{AreLiterals}

-- the last of the rules
abbrev pub IsLast : List Rule → Rule → Type 0
IsLast rs r = (before : List Rule) × (rs ≡ before ++ r ∷ [])

-- there are rules, and the last hasn't the action `|`
abbrev pub EndsWithKind : List ℕ → List Rule → Type 0
EndsWithKind bytes rs = (r : Rule) × IsLast rs r × ¬ IsBarRule bytes r

-- there are rules, few enough, and the last hasn't the action `|`
pub record AreRules (bytes : List ℕ) (rs : List Rule) : Type 0 where
  pub ends : EndsWithKind bytes rs
  pub few : length rs ≤ 2048

-- The bytes are accepted beside the yacc file, and mean this file.
pub record IsLexFile (bytes : List ℕ) (yacc : tokens.File) (file : File) : Type 0 where
  pub definitions : List Definition
  pub rules : List Rule
  pub layout : HasLayout bytes definitions rules
  pub are_rules : AreRules bytes rules
  pub accepted : AreAccepted (all_spelled bytes definitions)
  pub patterns : HavePatterns (all_spelled bytes definitions) bytes rules file.patterns
  pub few : positions file.patterns ≤ 16384
  pub kinds : HaveKinds yacc bytes rules file.kinds
  pub literals : AreLiterals yacc file.literals

-- The rules that come before one whose pattern is refused have patterns.
pub record IsFirstFaulty (ds : List definitions.Definition) (bytes : List ℕ) (rs : List Rule) (r : Rule) (fault : PatternFault) : Type 0 where
  pub before : List Rule
  pub behind : List Rule
  pub stands : rs ≡ before ++ r ∷ behind
  pub patterns : List Regex
  pub have : HavePatterns ds bytes before patterns
  pub refused : IsFault (pattern_of bytes r) ds fault

-- The definition whose substitute is refused.
pub record IsFaultyDefinition (bytes : List ℕ) (ds : List Definition) (d : Definition) (fault : PatternFault) : Type 0 where
  pub index : ℕ
  pub stands : slice_get ds index ≡ Some d
  pub refused : IsRefused (all_spelled bytes ds) index fault

-- Why bytes with this layout are refused, the first that applies.
pub data IsFaulty (bytes : List ℕ) (ds : List Definition) (rs : List Rule) (error : LexError) : Type 0 where
  no_rules : rs ≡ [] → error ≡ NoRules → IsFaulty bytes ds rs error
  dangling_bar : (r : Rule) → IsLast rs r → IsBarRule bytes r → error ≡ DanglingBar r.at → IsFaulty bytes ds rs error
  many_rules : EndsWithKind bytes rs → 2048 < length rs → error ≡ Limit Rules (length rs) 2048 → IsFaulty bytes ds rs error
  definition : (d : Definition) (fault : PatternFault) → AreRules bytes rs → IsFaultyDefinition bytes ds d fault
      → error ≡ Pattern d.substitute.from fault → IsFaulty bytes ds rs error
  rule : (r : Rule) (fault : PatternFault) → AreRules bytes rs → AreAccepted (all_spelled bytes ds) → IsFirstFaulty (all_spelled bytes ds) bytes rs r fault
      → error ≡ Pattern r.pattern.from fault → IsFaulty bytes ds rs error
  many_positions : (patterns : List Regex) → AreRules bytes rs → AreAccepted (all_spelled bytes ds) → HavePatterns (all_spelled bytes ds) bytes rs patterns
      → 16384 < positions patterns → error ≡ Limit Positions (positions patterns) 16384 → IsFaulty bytes ds rs error

-- The bytes are refused with this error. Want of memory refuses nothing.
pub data Refuses (error : LexError) (bytes : List ℕ) : Type 0 where
  stops : (stop : layout.LayoutError) → StopsWith bytes stop → error ≡ error_of stop → Refuses error bytes
  faulty : (ds : List Definition) (rs : List Rule) → HasLayout bytes ds rs → IsFaulty bytes ds rs error → Refuses error bytes

-- the bytes are refused so; memory may run out
abbrev pub RefusesOrMemory : List ℕ → LexError → Type 0
RefusesOrMemory bytes Memory = Unit {0}
RefusesOrMemory bytes error = Refuses error bytes
