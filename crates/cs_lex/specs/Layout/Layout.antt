-- The layout of a lex file: its definitions and its rules, and where layout stops (POSIX lex).
use Rattle.std.specs.Prelude.{◌≡◌, ℕ, ◌+◌, Bool, true, false, List, [], ◌∷◌, ◌++◌, Some, slice_get, map, take, drop}
use Rattle.std.specs.List.{list_any}
use Rattle.std.specs.Str.{bytes_eq}
use Rattle.cs_lex.specs.declared.layout.parts.Part.{Part}
use Rattle.cs_lex.specs.declared.layout.parts.Definition.{Definition}
use Rattle.cs_lex.specs.declared.layout.parts.Rule.{Rule}
use Rattle.cs_lex.specs.declared.layout.error.LayoutError.{LayoutError}
use Rattle.cs_lex.specs.declared.layout.error.LayoutError.TheVariants.{Unended, Layout, UnknownDirective, UnknownOption, StartCondition}
use Rattle.cs_lex.specs.declared.layout.line.LineKind.TheVariants as kinds
use Rattle.cs_lex.specs.Layout.Steps.{Walk}
use Rattle.cs_bytes.specs.Places.{line_size}
use Rattle.cs_lex.specs.Layout.Lines.{definitions_kind, rules_kind}
use Rattle.cs_lex.specs.Layout.Runs.{IsOpenRun}
use Rattle.cs_lex.specs.Layout.Forms.{line_of, IsCodeBlock, AreOptions, IsFirstUnknown, IsLoose, IsDefinition, IsRule, IsOpenRule}

-- the bytes of a part
abbrev pub bytes_of : List ℕ → Part → List ℕ
bytes_of bytes part = drop part.from (take part.to bytes)

-- the names of the definitions
abbrev pub names_of : List ℕ → List Definition → List (List ℕ)
names_of bytes ds = map (λ d. bytes_of bytes d.name) ds

-- one of the names is this one
abbrev pub has_name : List (List ℕ) → List ℕ → Bool
has_name names name = list_any (bytes_eq name) names

-- the definition whose line begins at the offset, by the places of its parts behind it
abbrev pub definition_at : ℕ → ℕ → ℕ → ℕ → Definition
definition_at at name_to from to =
    record { at = at; name = record { from = at; to = at + name_to }; substitute = record { from = at + from; to = at + to } }

-- the rule whose line begins at the offset
abbrev pub rule_at : ℕ → ℕ → ℕ → ℕ → Rule
rule_at at pattern_to from to =
    record { at = at; pattern = record { from = at; to = at + pattern_to }; action = record { from = at + from; to = at + to } }

-- ---- the definitions section

-- A line of the definitions section without a definition begins the text, and has this size.
pub data IsPassed (text : List ℕ) (size : ℕ) : Type 0 where
  block : definitions_kind text ≡ kinds.Block → IsCodeBlock text size → IsPassed text size
  options : definitions_kind text ≡ kinds.Options → AreOptions text → size ≡ line_size text → IsPassed text size
  skipped : definitions_kind text ≡ kinds.Skipped → size ≡ line_size text → IsPassed text size
  loose : definitions_kind text ≡ kinds.Loose → IsLoose text size → IsPassed text size

-- how far the definitions section has come: an offset, and the definitions before it
pub record DefinitionsPlace : Type 0 where
  pub at : ℕ
  pub definitions : List Definition

-- a definition comes at the offset, whether its name is new or not
pub record HasDefinitionAt (bytes : List ℕ) (at : ℕ) (d : Definition) : Type 0 where
  pub kind : definitions_kind (drop at bytes) ≡ kinds.Definition
  pub name_to : ℕ
  pub from : ℕ
  pub to : ℕ
  pub form : IsDefinition (line_of (drop at bytes)) name_to from to
  pub is : d ≡ definition_at at name_to from to

-- One line of the definitions section leads from the one place to the other.
pub data DefinitionsLine (bytes : List ℕ) (s t : DefinitionsPlace) : Type 0 where
  passed : (size : ℕ) → IsPassed (drop s.at bytes) size → t ≡ record { at = s.at + size; definitions = s.definitions } → DefinitionsLine bytes s t
  definition : (d : Definition) → HasDefinitionAt bytes s.at d → has_name (names_of bytes s.definitions) (bytes_of bytes d.name) ≡ false
      → t ≡ record { at = s.at + line_size (drop s.at bytes); definitions = s.definitions ++ d ∷ [] } → DefinitionsLine bytes s t

abbrev pub no_definitions : DefinitionsPlace
no_definitions = record { at = 0; definitions = [] }

-- The definitions section has these definitions, and ends before the offset.
pub record HasDefinitions (bytes : List ℕ) (ds : List Definition) (behind : ℕ) : Type 0 where
  pub at : ℕ
  pub lines : Walk (DefinitionsLine bytes) no_definitions (record { at = at; definitions = ds })
  pub ends : definitions_kind (drop at bytes) ≡ kinds.SectionEnd
  pub behind_is : behind ≡ at + line_size (drop at bytes)

-- ---- the rules section

pub data IsPassedRule (text : List ℕ) (size : ℕ) : Type 0 where
  block : rules_kind text ≡ kinds.Block → IsCodeBlock text size → IsPassedRule text size
  loose : rules_kind text ≡ kinds.Loose → IsLoose text size → IsPassedRule text size

-- how far the rules section has come: an offset, and the rules before it
pub record RulesPlace : Type 0 where
  pub at : ℕ
  pub rules : List Rule

-- the rule stands at the offset, and its line ends there
pub record HasRuleAt (bytes : List ℕ) (at : ℕ) (r : Rule) (behind : ℕ) : Type 0 where
  pub kind : rules_kind (drop at bytes) ≡ kinds.Rule
  pub pattern_to : ℕ
  pub from : ℕ
  pub to : ℕ
  pub size : ℕ
  pub form : IsRule (drop at bytes) pattern_to from to size
  pub is : r ≡ rule_at at pattern_to from to
  pub behind_is : behind ≡ at + size

-- One line of the rules section leads from the one place to the other.
pub data RulesLine (bytes : List ℕ) (s t : RulesPlace) : Type 0 where
  passed : (size : ℕ) → IsPassedRule (drop s.at bytes) size → t ≡ record { at = s.at + size; rules = s.rules } → RulesLine bytes s t
  rule : (r : Rule) (behind : ℕ) → HasRuleAt bytes s.at r behind → t ≡ record { at = behind; rules = s.rules ++ r ∷ [] } → RulesLine bytes s t

abbrev pub no_rules : ℕ → RulesPlace
no_rules from = record { at = from; rules = [] }

-- The rules section that begins at the offset has these rules.
pub record HasRules (bytes : List ℕ) (from : ℕ) (rs : List Rule) : Type 0 where
  pub at : ℕ
  pub lines : Walk (RulesLine bytes) (no_rules from) (record { at = at; rules = rs })
  pub ends : rules_kind (drop at bytes) ≡ kinds.SectionEnd

-- ---- the whole file

-- no definition has the name of one before it
abbrev pub HaveNewNames : List ℕ → List Definition → Type 0
HaveNewNames bytes ds = (k : ℕ) (d : Definition) → slice_get ds k ≡ Some d → has_name (names_of bytes (take k ds)) (bytes_of bytes d.name) ≡ false

-- The bytes have a layout, with these definitions and rules.
pub record HasLayout (bytes : List ℕ) (ds : List Definition) (rs : List Rule) : Type 0 where
  pub from : ℕ
  pub definitions : HasDefinitions bytes ds from
  pub rules : HasRules bytes from rs

-- Why no line of the definitions section goes on from the place.
pub data DefinitionsFault (bytes : List ℕ) (s : DefinitionsPlace) (error : LayoutError) : Type 0 where
  open_block : definitions_kind (drop s.at bytes) ≡ kinds.Block → ((n : ℕ) → ¬ IsCodeBlock (drop s.at bytes) n) → error ≡ Unended s.at → DefinitionsFault bytes s error
  open_comment : (n : ℕ) → definitions_kind (drop s.at bytes) ≡ kinds.Loose → IsOpenRun false (drop s.at bytes) n → error ≡ Unended (s.at + n) → DefinitionsFault bytes s error
  no_form : definitions_kind (drop s.at bytes) ≡ kinds.NoForm → error ≡ Layout s.at → DefinitionsFault bytes s error
  no_definition : definitions_kind (drop s.at bytes) ≡ kinds.Definition → ((d : Definition) → ¬ HasDefinitionAt bytes s.at d) → error ≡ Layout s.at → DefinitionsFault bytes s error
  defined_again : (d : Definition) → HasDefinitionAt bytes s.at d → has_name (names_of bytes s.definitions) (bytes_of bytes d.name) ≡ true → error ≡ Layout s.at → DefinitionsFault bytes s error
  unknown_directive : definitions_kind (drop s.at bytes) ≡ kinds.Unknown → error ≡ UnknownDirective s.at → DefinitionsFault bytes s error
  unknown_option : (n : ℕ) → definitions_kind (drop s.at bytes) ≡ kinds.Options → IsFirstUnknown (drop s.at bytes) n → error ≡ UnknownOption (s.at + 7 + n) → DefinitionsFault bytes s error
  start_condition : definitions_kind (drop s.at bytes) ≡ kinds.Conditions → error ≡ StartCondition s.at → DefinitionsFault bytes s error

-- Why no line of the rules section goes on from the offset.
pub data RulesFault (bytes : List ℕ) (at : ℕ) (error : LayoutError) : Type 0 where
  open_block : rules_kind (drop at bytes) ≡ kinds.Block → ((n : ℕ) → ¬ IsCodeBlock (drop at bytes) n) → error ≡ Unended at → RulesFault bytes at error
  open_comment : (n : ℕ) → rules_kind (drop at bytes) ≡ kinds.Loose → IsOpenRun false (drop at bytes) n → error ≡ Unended (at + n) → RulesFault bytes at error
  open_action : (n : ℕ) → rules_kind (drop at bytes) ≡ kinds.Rule → IsOpenRule (drop at bytes) n → error ≡ Unended (at + n) → RulesFault bytes at error

-- Layout stops so: lines lead to a place from which none goes on.
pub data StopsWith (bytes : List ℕ) (error : LayoutError) : Type 0 where
  in_definitions : (s : DefinitionsPlace) → Walk (DefinitionsLine bytes) no_definitions s → DefinitionsFault bytes s error → StopsWith bytes error
  in_rules : (ds : List Definition) (from : ℕ) → HasDefinitions bytes ds from → (s : RulesPlace) → Walk (RulesLine bytes) (no_rules from) s → RulesFault bytes s.at error → StopsWith bytes error
