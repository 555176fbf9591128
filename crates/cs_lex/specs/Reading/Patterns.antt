-- The patterns of the rules of a lex file, with its definitions put in.
use Rattle.std.specs.Prelude.{◌≡◌, ℕ, List, [], ◌∷◌, map, sum_by}
use Rattle.cs_pattern.specs.Text.Answers.{IsPatternOf}
use Rattle.cs_pattern.specs.Operations.Definitions as definitions
use Rattle.cs_pattern_parts.specs.Tree.Pattern.{Regex, leaves}
use Rattle.cs_lex.specs.declared.layout.parts.Definition.{Definition}
use Rattle.cs_lex.specs.declared.layout.parts.Rule.{Rule}
use Rattle.cs_lex.specs.Layout.Layout.{bytes_of}

-- the name and the text of a definition
abbrev pub spelled : List ℕ → Definition → definitions.Definition
spelled bytes d = record { name = bytes_of bytes d.name; text = bytes_of bytes d.substitute }

abbrev pub all_spelled : List ℕ → List Definition → List definitions.Definition
all_spelled bytes ds = map (spelled bytes) ds

-- the text of the rule's pattern
abbrev pub pattern_of : List ℕ → Rule → List ℕ
pattern_of bytes r = bytes_of bytes r.pattern

-- the rules have the patterns, in order, with these definitions put in
abbrev pub HavePatterns : List definitions.Definition → List ℕ → List Rule → List Regex → Type 0
HavePatterns ds bytes [] patterns = patterns ≡ []
HavePatterns ds bytes (r ∷ rs) [] = ⊥
HavePatterns ds bytes (r ∷ rs) (p ∷ ps) = IsPatternOf ds (pattern_of bytes r) p × HavePatterns ds bytes rs ps

-- how many leaves the patterns have together
abbrev pub positions : List Regex → ℕ
positions patterns = sum_by leaves patterns
