-- What is told of rules, one after another. Working words of proofs.
use Rattle.std.specs.Prelude.{◌≡◌, ℕ, ◌≤◌, All, List, Option, Some, length, slice_get}
use Rattle.cs_grammar.specs.Grammar.{IsGrammar, IsNumberOf}
use Rattle.cs_lexical.specs.Least.{AreLeastTexts, LeastTexts}
use Rattle.cs_manifest.specs.Manifest.Named.{IsNamedRendering}
use Rattle.cs_manifest.specs.Output.Names.{AreNamedTokens, IsNamedToken}
use Rattle.cs_pattern_parts.specs.declared.kind.Kind.{Kind}
use Rattle.cs_scanner.specs.Automaton.Machine.{patterns_of}
use Rattle.cs_scanner.specs.Scan.Compared.{IsInCommon, scanning}
use Rattle.cs_scanner.specs.declared.scanning.scanner.Scanner.{Scanner}
use Rattle.cs_spell.specs.Telling.Chosen.{RuleVerdict}
use Rattle.cs_spell.specs.Telling.Choosing.{IsChoice}
use Rattle.cs_spell.specs.Texts.Texts.{IsRenderedWith, ShowsSpelling}
use Rattle.cs_texts.specs.Rendering.Rendering.{Rendering, Text, NoLexeme, Differs, rendering}
use Rattle.cs_texts.specs.declared.rendering.rendered.Rendered.{Rendered}
use Rattle.cs_spell.specs.Telling.Seen.{making_of, told_of}
use Rattle.cs_spell.specs.Telling.Spelling.{IsTold, IsToldBy, IsToldOf}
use Rattle.cs_spell.specs.Telling.Told as spec
use Rattle.cs_spell.specs.declared.telling.telling.Tools.{Tools}
use Rattle.cs_spell.specs.declared.telling.told.Told.{Told}
use Rattle.cs_spell.specs.declared.texts.way.Way.{Way}
use Rattle.cs_spell.specs.declared.texts.way.Way.TheVariants.{Gives, Skips}
use Rattle.cs_yacc.specs.Reading.File.{File}

-- the tokens of each derivation are some of the grammar's, and few
abbrev pub AreFewTokens : ℕ → List RuleVerdict → Type 0
AreFewTokens tokens judged = (k : ℕ) (j : RuleVerdict) → slice_get judged k ≡ Some j → All (IsNumberOf tokens) j.tokens × (length j.tokens ≤ 1000000)

-- what spellings are made with is of one file
pub record AreTools (t : Tools) : Type 0 where
  pub grammar : IsGrammar t.file.now.grammar
  pub names : length t.file.now.token_names ≡ t.file.now.grammar.tokens
  pub lexemes : length t.work.now.lexemes.now ≡ t.file.now.grammar.tokens
  pub rules : length t.judged.now ≡ length t.file.now.grammar.rules
  pub few : AreFewTokens t.file.now.grammar.tokens t.judged.now

-- these are the least texts of the rules of the tools' scanner
abbrev pub AreTextsFor : Tools → LeastTexts → Type 0
AreTextsFor t lexical = AreLeastTexts (patterns_of t.work.now.scanner.now.automaton.now) lexical

-- the place is that of the chosen rule
abbrev pub IsChoiceOf : Tools → Option ℕ → ℕ → Type 0
IsChoiceOf t wanted place = IsChoice t.file.now.grammar t.judged.now wanted (Some place)

-- what came of a text with the spelling
abbrev pub IsJudgedText : Scanner → List ℕ → List ℕ → ℕ → List ℕ → Rendering → Type 0
IsJudgedText scanner text tokens rule spelling (Text shown) = (shown ≡ text) × ShowsSpelling (scanning scanner) rule spelling tokens text
IsJudgedText scanner text tokens rule spelling (NoLexeme token) = ⊥
IsJudgedText scanner text tokens rule spelling (Differs after) =
    (ShowsSpelling (scanning scanner) rule spelling tokens text → ⊥) × IsInCommon (scanning scanner) text tokens after

-- what came of tokens with the spelling
abbrev pub IsRenderedBy : Tools → List ℕ → Way → ℕ → List ℕ → Rendered → Type 0
IsRenderedBy t tokens way rule spelling r =
    IsRenderedWith (scanning t.work.now.scanner.now) t.work.now.lexemes.now t.work.now.separator.now way rule spelling tokens (rendering r)

-- what is told of a spelling, by what the tools make
abbrev pub TellsOf : Tools → Option ℕ → ℕ → List ℕ → Told → Type 0
TellsOf t wanted rule spelling told = IsToldOf (making_of t) wanted rule spelling (told_of told)

abbrev pub TellsBy : Tools → Kind → ℕ → List ℕ → Told → Type 0
TellsBy t kind rule spelling told = IsToldBy (making_of t) kind rule spelling (told_of told)

abbrev pub Tells : Tools → ℕ → Kind → Told → Type 0
Tells t rule kind told = IsTold (making_of t) rule kind (told_of told)

-- the names of a way's token, of tokens and of a rendering are in the file
abbrev pub IsNamedWay : File → Way → Type 0
IsNamedWay file (Gives token place) = IsNamedToken file token
IsNamedWay file Skips = Unit {0}

pub record IsNamedShowing (file : File) (s : spec.Showing) : Type 0 where
  pub way : IsNamedWay file s.way
  pub tokens : AreNamedTokens file s.tokens
  pub rendering : IsNamedRendering file s.rendering

abbrev pub IsNamedTold : File → spec.Told → Type 0
IsNamedTold file spec.Shadowed = Unit {0}
IsNamedTold file spec.Foreign = Unit {0}
IsNamedTold file spec.Literal = Unit {0}
IsNamedTold file spec.Infeasible = Unit {0}
IsNamedTold file spec.Large = Unit {0}
IsNamedTold file (spec.Shown showing) = IsNamedShowing file showing
