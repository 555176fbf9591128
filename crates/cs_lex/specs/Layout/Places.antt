-- What the lines at an offset answer.
use Rattle.std.specs.Prelude.{◌≡◌, ℕ, false, ◌+◌, ◌-◌, ◌<◌, ◌≤◌, List, length, drop, Result, Ok, Err}
use Rattle.cs_lex.specs.declared.layout.layout.Section.{Section}
use Rattle.cs_lex.specs.declared.layout.layout.DefinitionsLine as code
use Rattle.cs_lex.specs.declared.layout.layout.DefinitionsLine.TheVariants as definitions
use Rattle.cs_lex.specs.declared.layout.layout.RulesLine as there
use Rattle.cs_lex.specs.declared.layout.layout.RulesLine.TheVariants as rules
use Rattle.cs_lex.specs.declared.layout.line.LineKind.TheVariants as kinds
use Rattle.cs_lex.specs.declared.layout.parts.Definition.{Definition}
use Rattle.cs_lex.specs.declared.layout.error.LayoutError.{LayoutError}
use Rattle.cs_lex.specs.declared.layout.error.LayoutError.TheVariants.{Unended, Layout, UnknownOption, Memory}
use Rattle.cs_lex.specs.declared.layout.parts.Rule.{Rule}
use Rattle.std.specs.Global.{Vec}
use Rattle.cs_bytes.specs.Places.{line_size}
use Rattle.cs_lex.specs.Layout.Lines.{definitions_kind, rules_kind}
use Rattle.cs_lex.specs.Layout.Lies.{HasRoom, RuleLies, DefinitionsLie}
use Rattle.cs_lex.specs.Layout.Runs.{IsOpenRun}
use Rattle.cs_lex.specs.Layout.Forms.{IsCodeBlock, AreOptions, IsFirstUnknown}
use Rattle.cs_lex.specs.Layout.Layout.{IsPassed, IsPassedRule, HasDefinitionAt, HasRuleAt, DefinitionsFault, RulesFault, HasDefinitions, HasRules, RulesPlace, RulesLine, no_rules}
use Rattle.cs_lex.specs.Layout.Steps.{Walk}
use Rattle.cs_lex.specs.Layout.Answers.{AnswersError}

-- the offset lies behind the other, in the file
abbrev pub IsBehind : List ℕ → ℕ → ℕ → Type 0
IsBehind bytes at to = (at < to) × (to ≤ length bytes)

-- the block at the offset isn't closed
abbrev pub IsOpenBlock : List ℕ → ℕ → LayoutError → Type 0
IsOpenBlock bytes at e = (e ≡ Unended at) × ((n : ℕ) → ¬ IsCodeBlock (drop at bytes) n)

-- a comment of the loose text at the offset isn't closed
abbrev pub IsOpenLoose : List ℕ → ℕ → LayoutError → Type 0
IsOpenLoose bytes at e = (n : ℕ) × IsOpenRun false (drop at bytes) n × (e ≡ Unended (at + n))

-- the words of the `%option` line at the offset are known, and it ends before the other offset
abbrev pub AreOptionsTo : List ℕ → ℕ → ℕ → Type 0
AreOptionsTo bytes at to = AreOptions (drop at bytes) × (to ≡ at + line_size (drop at bytes))

-- a word of the `%option` line at the offset isn't known
abbrev pub IsUnknownOption : List ℕ → ℕ → LayoutError → Type 0
IsUnknownOption bytes at e = (n : ℕ) × IsFirstUnknown (drop at bytes) n × (e ≡ UnknownOption (at + 7 + n))

-- the line at the offset is no definition
abbrev pub IsNoDefinitionThere : List ℕ → ℕ → LayoutError → Type 0
IsNoDefinitionThere bytes at e = (e ≡ Layout at) × ((d : Definition) → ¬ HasDefinitionAt bytes at d)

abbrev pub FindsDefinition : List ℕ → ℕ → Definition → Type 0
FindsDefinition bytes at d = HasDefinitionAt bytes at d × HasRoom bytes at d

abbrev pub FindsDefinitionsLine : List ℕ → ℕ → Result code.DefinitionsLine LayoutError → Type 0
FindsDefinitionsLine bytes at (Ok (definitions.End to)) = (definitions_kind (drop at bytes) ≡ kinds.SectionEnd) × (to ≡ at + line_size (drop at bytes)) × (to ≤ length bytes)
FindsDefinitionsLine bytes at (Ok (definitions.Passed to)) = IsPassed (drop at bytes) (to - at) × IsBehind bytes at to
FindsDefinitionsLine bytes at (Ok (definitions.Definition d to)) = HasDefinitionAt bytes at d × HasRoom bytes at d × (to ≡ at + line_size (drop at bytes)) × IsBehind bytes at to
FindsDefinitionsLine bytes at (Err e) = (ds : List Definition) → DefinitionsFault bytes (record { at = at; definitions = ds }) e

abbrev pub AnswersDefinitions : List ℕ → Result Section LayoutError → Type 0
AnswersDefinitions bytes (Ok section) = HasDefinitions bytes section.definitions.items section.behind × (section.behind ≤ length bytes)
AnswersDefinitions bytes (Err e) = AnswersError bytes e

abbrev pub FindsRulesLine : List ℕ → ℕ → Result there.RulesLine LayoutError → Type 0
FindsRulesLine bytes at (Ok rules.End) = rules_kind (drop at bytes) ≡ kinds.SectionEnd
FindsRulesLine bytes at (Ok (rules.Passed to)) = IsPassedRule (drop at bytes) (to - at) × IsBehind bytes at to
FindsRulesLine bytes at (Ok (rules.Rule r to)) = HasRuleAt bytes at r to × IsBehind bytes at to × RuleLies (length bytes) r
FindsRulesLine bytes at (Err e) = RulesFault bytes at e

-- the rules section stops there
abbrev pub StopsInRules : List ℕ → ℕ → LayoutError → Type 0
StopsInRules bytes from e = (s : RulesPlace) × Walk (RulesLine bytes) (no_rules from) s × RulesFault bytes s.at e

abbrev pub StopsInRulesOr : List ℕ → ℕ → LayoutError → Type 0
StopsInRulesOr bytes from Memory = Unit {0}
StopsInRulesOr bytes from e = StopsInRules bytes from e

abbrev pub AnswersRules : List ℕ → ℕ → Result (Vec Rule) LayoutError → Type 0
AnswersRules bytes from (Ok rs) = HasRules bytes from rs.items
AnswersRules bytes from (Err e) = StopsInRulesOr bytes from e

abbrev pub SectionLies : ℕ → Section → Type 0
SectionLies size section = DefinitionsLie size size section.definitions.items
