-- What is asked for, and what it needs.
use Rattle.std.specs.Prelude.{◌≡◌, ◌≤◌, ℕ, List, Some, length}
use Rattle.cs_choices.specs.declared.weigh.Weigh.{Weigh}
use Rattle.cs_grammar.specs.Weights.{Measure, Weighed, weighed}
use Rattle.cs_manifest.specs.Manifest.ByWork.{texts_of}
use Rattle.cs_manifest.specs.Manifest.Manifest.{measure_of}
use Rattle.cs_scanner.specs.Lexeme.Lexeme.{AreLexemes}
use Rattle.cs_scanner.specs.Scan.Compared.{scanning}
use Rattle.cs_spell.specs.Telling.Chosen.{AreRuleVerdicts, RuleVerdict}
use Rattle.cs_spell.specs.Telling.Spelling.{IsSpelling}
use Rattle.cs_spell.specs.declared.writing.writing.Spelled.{Spelled}
use Rattle.cs_texts.specs.declared.rendering.render_work.RenderWork.{RenderWork}
use Rattle.cs_yacc.specs.Reading.File.{File}

-- the lexemes are those of the file's tokens
abbrev pub HaveLexemes : File → RenderWork → Type 0
HaveLexemes file work = AreLexemes (scanning work.scanner.now) file.grammar.tokens work.lexemes.now

-- how trees of the file are measured with these lexemes
abbrev pub measure_with : Weigh → File → RenderWork → Measure
measure_with weigh file work = measure_of weigh file.grammar.tokens (Some work.lexemes.now)

-- the text tells the spellings of the rules of the work's scanner, beside the yacc file
abbrev pub Spells : File → RenderWork → Weigh → List ℕ → Type 0
Spells file work weigh text = IsSpelling file (texts_of work) weigh text

-- the text of the spellings that are asked for
abbrev pub IsAsked : Spelled → List ℕ → Type 0
IsAsked s text = Spells s.file.now s.work.now s.weigh text

-- The text can be written: trees are measured as is asked, the lexemes are those of the file's tokens, and there are few rules.
pub record IsReady (s : Spelled) : Type 0 where
  pub weights : s.weights.now ≡ measure_with s.weigh s.file.now s.work.now
  pub lexemes : HaveLexemes s.file.now s.work.now
  pub few : length s.work.now.scanner.now.kinds.now ≤ 2048

-- the grammar and how its trees are measured
abbrev pub weighed_in : Spelled → Weighed
weighed_in s = weighed s.file.now.grammar s.weights.now

-- these are the verdicts of its rule goals
abbrev pub AreJudgedFor : Spelled → List RuleVerdict → Type 0
AreJudgedFor s judged = AreRuleVerdicts (weighed_in s) judged
