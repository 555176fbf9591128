-- What the steps of reading answer.
use Rattle.std.specs.Prelude.{ℕ, ◌<◌, ◌≤◌, Bool, false, List, length, Option, Some, None}
use Rattle.cs_lex.specs.declared.layout.forms.DefinitionForm.{DefinitionForm}
use Rattle.cs_lex.specs.declared.layout.forms.RuleForm.{RuleForm}
use Rattle.cs_lex.specs.declared.layout.run.Run.{Run}
use Rattle.cs_lex.specs.declared.layout.run.Run.TheVariants.{To, Open}
use Rattle.cs_lex.specs.declared.layout.forms.RuleLine.{RuleLine}
use Rattle.cs_lex.specs.declared.layout.forms.RuleLine.TheVariants as lines
use Rattle.cs_bytes.specs.Places.{line_len}
use Rattle.cs_lex.specs.Layout.Runs.{IsCodeRun, IsOpenRun}
use Rattle.cs_lex.specs.Layout.Forms.{IsLoose, IsRule, IsOpenRule}

abbrev pub closed_or_line : Option ℕ → List ℕ → ℕ
closed_or_line (Some size) text = size
closed_or_line None text = line_len text

abbrev pub FindsRun : Bool → List ℕ → Run → Type 0
FindsRun braces text (To n) = IsCodeRun braces text n × (n ≤ length text)
FindsRun braces text (Open n) = IsOpenRun braces text n × (n < length text)

abbrev pub FindsLoose : List ℕ → Run → Type 0
FindsLoose text (To n) = IsLoose text n × (n ≤ length text)
FindsLoose text (Open n) = IsOpenRun false text n × (n < length text)

-- the parts of the rule stand in order within the text
abbrev pub RuleIn : List ℕ → RuleForm → Type 0
RuleIn text f = (f.pattern_to ≤ f.from) × (f.from ≤ f.to) × (f.to ≤ f.size) × (f.size ≤ length text)

abbrev pub FindsRule : List ℕ → RuleLine → Type 0
FindsRule text (lines.Closed f) = IsRule text f.pattern_to f.from f.to f.size × RuleIn text f
FindsRule text (lines.Open n) = IsOpenRule text n × (n < length text)

-- the parts of the definition stand in order within the line
abbrev pub DefinitionIn : List ℕ → DefinitionForm → Type 0
DefinitionIn line f = (f.name_to ≤ f.from) × (f.from ≤ f.to) × (f.to ≤ length line)
