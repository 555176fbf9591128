-- Which line may come behind which, and its running number.
use Rattle.std.specs.Prelude.{◌≡◌, ◌⊎◌, ◌≤◌, ◌+◌, List, [], ◌∷◌, length, Some, slice_get}
use Rattle.std.specs.List.{Contains, fold}
use Rattle.cs_grammar.specs.Grammar.{PlainGrammar}
pub use Rattle.cs_check.specs.declared.checking.part.Part.{Part}
pub use Rattle.cs_check.specs.declared.checking.part.Part.TheVariants.{InHead, OfCase, OfDerivation, OfCaseTokens, OfCaseText, OfGoal, OfBase, OfNegative, OfNegativeTokens, OfNegativeText, OfEnd}
use Rattle.cs_lines.specs.Lines.Line.{Line, CaseLine, DeriveLine, TokensLine, TextLine, NoLexemeLine, NoScanLine, GoalLine, BaseLine, NegativeLine, EndLine}
use Rattle.cs_check.specs.Passing.Above.{case_sizes, goals_in, base_goals, edits}
use Rattle.cs_check.specs.Passing.Head.{Due, Takes, whole_head, head_size}

-- the tokens of a negative stand behind it, and all others are those of a case
abbrev pub tokens_part : Part → Part
tokens_part OfNegative = OfNegativeTokens
tokens_part part = OfCaseTokens

abbrev pub text_part : Part → Part
text_part OfNegativeTokens = OfNegativeText
text_part part = OfCaseText

-- the part of a line behind a part
abbrev pub part_of : Part → Line → Part
part_of before (CaseLine n size) = OfCase
part_of before (DeriveLine rules) = OfDerivation
part_of before (TokensLine names) = tokens_part before
part_of before (TextLine text) = text_part before
part_of before (NoLexemeLine name) = text_part before
part_of before (NoScanLine after) = text_part before
part_of before (GoalLine n goal verdict) = OfGoal
part_of before (BaseLine n goal) = OfBase
part_of before (NegativeLine n base edit left right at) = OfNegative
part_of before (EndLine counts) = OfEnd
part_of before l = InHead

-- that of the last line
abbrev pub last_part : List Line → Part
last_part lines = fold part_of InHead lines

-- what may come behind a part: at most one case stands before a goal, and behind each case there is one
abbrev pub next_parts : Part → List Part
next_parts InHead = OfCase ∷ OfGoal ∷ OfBase ∷ OfEnd ∷ []
next_parts OfCase = OfDerivation ∷ []
next_parts OfDerivation = OfCaseTokens ∷ []
next_parts OfCaseTokens = OfCaseText ∷ []
next_parts OfCaseText = OfGoal ∷ []
next_parts OfGoal = OfCase ∷ OfGoal ∷ OfBase ∷ OfEnd ∷ []
next_parts OfBase = OfNegative ∷ OfBase ∷ OfEnd ∷ []
next_parts OfNegative = OfNegativeTokens ∷ []
next_parts OfNegativeTokens = OfNegativeText ∷ []
next_parts OfNegativeText = OfNegative ∷ OfBase ∷ OfEnd ∷ []
next_parts OfEnd = []

-- cases, goals, bases and negatives are numbered from 1
abbrev pub IsNumbered : List Line → Line → Type 0
IsNumbered above (CaseLine n size) = n ≡ length (case_sizes above) + 1
IsNumbered above (GoalLine n goal verdict) = n ≡ length (goals_in above) + 1
IsNumbered above (BaseLine n goal) = n ≡ length (base_goals above) + 1
IsNumbered above (NegativeLine n base edit left right at) = n ≡ length (edits above) + 1
IsNumbered above l = Unit {0}

-- the line stands in the head
pub record IsInHead (g : PlainGrammar) (above : List Line) (l : Line) : Type 0 where
  pub within : length above ≤ head_size g above
  pub due : Due
  pub is_due : slice_get (whole_head g) (length above) ≡ Some due
  pub takes : Takes due l

-- it stands behind the head
pub record IsBehindHead (g : PlainGrammar) (above : List Line) (l : Line) : Type 0 where
  pub behind : head_size g above ≤ length above
  pub part : Contains (next_parts (last_part above)) (part_of (last_part above) l)
  pub numbered : IsNumbered above l

-- the line may stand below those
abbrev pub MayCome : PlainGrammar → List Line → Line → Type 0
MayCome g above l = IsInHead g above l ⊎ IsBehindHead g above l
