-- The spellings of a scanner's rules: the least text that each rule wins, shown in a least sentence.
use Rattle.std.specs.Prelude.{◌≡◌, ℕ, suc, List, Option, None, Some, length, slice_get}
use Rattle.cs_choices.specs.declared.weigh.Weigh.{Weigh}
use Rattle.cs_grammar.specs.Weights.{Weighed, weighed}
use Rattle.cs_lexical.specs.Winning.{IsLeastIfAny, Wins}
use Rattle.cs_manifest.specs.Manifest.Manifest.{Texts, measure_of}
use Rattle.cs_pattern_parts.specs.declared.kind.Kind.{Kind}
use Rattle.cs_pattern_parts.specs.declared.kind.Kind.TheVariants as kinds
use Rattle.cs_scanner.specs.Lexeme.Lexeme.{AreLexemes}
use Rattle.cs_scanner.specs.Scan.Scan.{Scanning}
use Rattle.cs_spell.specs.Telling.Chosen.{AreRuleVerdicts, HasLarge, HasNoCandidate, IsChosen, RuleVerdict}
use Rattle.cs_spell.specs.Telling.Lines.{spell_text}
use Rattle.cs_spell.specs.Texts.Texts.{IsRenderedWith, IsWayOf}
use Rattle.cs_spell.specs.Telling.Told.{Showing, Told, Shadowed, Foreign, Literal, Infeasible, Large, Shown}
use Rattle.cs_verdicts.specs.declared.positive.verdict.Verdict.TheVariants.{Feasible}
use Rattle.cs_yacc.specs.Reading.File.{File}

-- what spellings are made by
pub record Making : Type 0 where
  pub file : File
  pub scanning : Scanning
  pub lexemes : List (Option (List ℕ))
  pub separator : List ℕ
  pub judged : List RuleVerdict

-- The spelling of the scanner rule is shown in the goal of the chosen rule.
pub record IsShowing (m : Making) (wanted : Option ℕ) (rule : ℕ) (spelling : List ℕ) (s : Showing) : Type 0 where
  pub place : ℕ
  pub number : s.rule ≡ suc place
  pub chosen : IsChosen m.file.grammar m.judged wanted place (record { verdict = Feasible s.size s.derivation; tokens = s.tokens })
  pub way : IsWayOf wanted s.tokens s.way
  pub text : IsRenderedWith m.scanning m.lexemes m.separator s.way rule spelling s.tokens s.rendering

-- The spelling of a rule that gives the token, or of one that is skipped: shown, or why it isn't.
abbrev pub IsToldOf : Making → Option ℕ → ℕ → List ℕ → Told → Type 0
IsToldOf m wanted rule spelling Shadowed = ⊥
IsToldOf m wanted rule spelling Foreign = ⊥
IsToldOf m wanted rule spelling Literal = ⊥
IsToldOf m wanted rule spelling Infeasible = HasNoCandidate m.file.grammar m.judged wanted × (HasLarge m.file.grammar m.judged wanted → ⊥)
IsToldOf m wanted rule spelling Large = HasNoCandidate m.file.grammar m.judged wanted × HasLarge m.file.grammar m.judged wanted
IsToldOf m wanted rule spelling (Shown s) = IsShowing m wanted rule spelling s

-- by the rule's kind, where it wins a text
abbrev pub IsToldBy : Making → Kind → ℕ → List ℕ → Told → Type 0
IsToldBy m kinds.Foreign rule spelling told = told ≡ Foreign
IsToldBy m kinds.OwnByte rule spelling told = told ≡ Literal
IsToldBy m (kinds.Token token) rule spelling told = IsToldOf m (Some token) rule spelling told
IsToldBy m kinds.Skip rule spelling told = IsToldOf m None rule spelling told

-- whatever its kind, a rule that wins none is shadowed
abbrev pub IsToldIf : Making → Kind → ℕ → Option (List ℕ) → Told → Type 0
IsToldIf m kind rule None told = told ≡ Shadowed
IsToldIf m kind rule (Some spelling) told = IsToldBy m kind rule spelling told

-- what is told of the scanner rule, whose spelling is the least text that it wins
pub record IsTold (m : Making) (rule : ℕ) (kind : Kind) (told : Told) : Type 0 where
  pub spelling : Option (List ℕ)
  pub least : IsLeastIfAny (Wins m.scanning.patterns rule) spelling
  pub is : IsToldIf m kind rule spelling told

-- that of each rule, in order
pub record AreTold (m : Making) (told : List Told) : Type 0 where
  pub all : length told ≡ length m.scanning.kinds
  pub each : (k : ℕ) (kind : Kind) (t : Told) → slice_get m.scanning.kinds k ≡ Some kind → slice_get told k ≡ Some t → IsTold m (suc k) kind t

-- how trees of the file are measured with these lexemes
abbrev pub weighed_by : Weigh → File → List (Option (List ℕ)) → Weighed
weighed_by weigh file lexemes = weighed file.grammar (measure_of weigh file.grammar.tokens (Some lexemes))

-- what spellings are made by, where these are the lexemes and the verdicts
abbrev pub making_with : File → Texts → List (Option (List ℕ)) → List RuleVerdict → Making
making_with file texts lexemes judged = record {
  file = file;
  scanning = texts.scanning;
  lexemes = lexemes;
  separator = texts.separator;
  judged = judged;
}

-- The text tells the spellings of the rules of what is scanned by, beside the yacc file.
pub record IsSpelling (file : File) (texts : Texts) (weigh : Weigh) (text : List ℕ) : Type 0 where
  pub lexemes : List (Option (List ℕ))
  pub judged : List RuleVerdict
  pub told : List Told
  pub are_lexemes : AreLexemes texts.scanning file.grammar.tokens lexemes
  pub are_judged : AreRuleVerdicts (weighed_by weigh file lexemes) judged
  pub are_told : AreTold (making_with file texts lexemes judged) told
  pub lines : text ≡ spell_text file told
