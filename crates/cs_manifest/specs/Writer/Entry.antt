-- What a clause reads of an entry.
use Rattle.std.specs.Prelude.{ℕ, List, Option, Some, option_map}
use Rattle.std.specs.Borrow.{Bor}
use Rattle.cs_texts.specs.declared.rendering.rendered.Rendered.{Rendered}
use Rattle.cs_texts.specs.Rendering.Rendering.{Rendering, rendering, rendering_in}
use Rattle.cs_yacc.specs.Reading.File.{File}
use Rattle.cs_manifest.specs.Output.Names.{AreNamedTokens}
use Rattle.cs_manifest.specs.declared.writer.entry.Entry.{Entry}
use Rattle.cs_manifest.specs.declared.writer.entry.FilledNegative.{FilledNegative}
use Rattle.cs_manifest.specs.declared.writer.entry.NumberedNegative.{NumberedNegative}
use Rattle.cs_manifest.specs.declared.writer.entry.Entry.TheVariants.{Goal, Case, Shared, Base, Negative, Filled}
use Rattle.cs_manifest.specs.Manifest.Lines.{goal_lines, base_line, negative_lines}
use Rattle.cs_manifest.specs.Filling.Open.{filled}
use Rattle.cs_manifest.specs.Manifest.SharedLines.{case_lines, shared_goal_line}
use Rattle.cs_manifest.specs.Manifest.Named.{AreNamedRenderings, IsNamedGoal, IsNamedNegative, IsNamedRendering}

-- the value of an answer behind a reference, where there is one
abbrev pub rendering_of : Option (Bor Rendered) → Option Rendering
rendering_of rendered = option_map (λ r. rendering r.now) rendered

-- the lines of a negative with its numbers
abbrev pub lines_of_numbered : File → NumberedNegative → List ℕ
lines_of_numbered file n = negative_lines file n.number n.base n.negative n.tokens.now (Some (rendering_in n.rendered))

-- those of one that fills lines
abbrev pub lines_of_filled : FilledNegative → List ℕ
lines_of_filled n = filled n.lines.now n.number.now n.name.now n.lexeme.now

-- the numbers of its tokens are of the file
pub record IsNamedNumbered (file : File) (n : NumberedNegative) : Type 0 where
  pub negative : IsNamedNegative file n.negative
  pub tokens : AreNamedTokens file n.tokens.now
  pub rendered : IsNamedRendering file (rendering_in n.rendered)

-- the lines of an entry
abbrev pub lines_of : File → Entry → List ℕ
lines_of file (Goal number goal verdict tokens rendered) =
    goal_lines file number goal.now verdict.now tokens.now (rendering_of rendered)
lines_of file (Case number size derivation tokens rendered) =
    case_lines file number size derivation.now tokens.now (Some (rendering rendered.now))
lines_of file (Shared number goal verdict) = shared_goal_line file number goal.now verdict
lines_of file (Base number goal) = base_line number goal
lines_of file (Negative numbered) = lines_of_numbered file numbered
lines_of file (Filled negative) = lines_of_filled negative

-- the numbers of its tokens are of the file
abbrev pub IsNamedEntry : File → Entry → Type 0
IsNamedEntry file (Goal number goal verdict tokens rendered) =
    IsNamedGoal file goal.now × AreNamedTokens file tokens.now × AreNamedRenderings file (rendering_of rendered)
IsNamedEntry file (Case number size derivation tokens rendered) =
    AreNamedTokens file tokens.now × IsNamedRendering file (rendering rendered.now)
IsNamedEntry file (Shared number goal verdict) = IsNamedGoal file goal.now
IsNamedEntry file (Base number goal) = Unit {0}
IsNamedEntry file (Negative numbered) = IsNamedNumbered file numbered
IsNamedEntry file (Filled negative) = Unit {0}
