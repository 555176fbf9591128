-- What reading a pattern answers.
use Rattle.std.specs.Prelude.{◌≡◌, ℕ, ◌≤◌, List, Option, Some, None, length}
use Rattle.cs_bytes.specs.Limits.{most_bytes}
use Rattle.cs_pattern.specs.declared.text.fault.PatternFault.{PatternFault}
use Rattle.cs_pattern.specs.declared.text.fault.PatternFault.TheVariants as faults
use Rattle.cs_pattern.specs.declared.text.fault.PatternError as errors
use Rattle.cs_pattern.specs.declared.text.fault.PatternError.TheVariants as error_kinds
use Rattle.cs_pattern_parts.specs.Items.Items.{Placed}
use Rattle.cs_pattern.specs.Operations.Definitions.{Definition}
use Rattle.cs_pattern.specs.Operations.Grammar.{Tree}
use Rattle.cs_pattern.specs.Text.Limits.{passed_limit}
use Rattle.cs_pattern.specs.Text.Names.{first_undefined}
use Rattle.cs_pattern_parts.specs.Tree.Pattern.{Regex, leaves}
use Rattle.cs_pattern.specs.Text.Substitution.{IsTreeOf}
use Rattle.cs_pattern.specs.Operations.Depth.{depth, pattern_of}
use Rattle.cs_pattern.specs.Text.Table.{Reads, IsFirstStop}

-- the limit that a tree passes, if it passes one
abbrev pub limit_of : Tree → Option PatternFault
limit_of tree = passed_limit (depth tree) (leaves (pattern_of tree))

-- The text is a pattern within the limits: the tree of its items, with the definitions put in, gives it.
pub record IsPatternOf (ds : List Definition) (text : List ℕ) (pattern : Regex) : Type 0 where
  pub tree : Tree
  pub is_tree : IsTreeOf ds text tree
  pub within : limit_of tree ≡ None
  pub is : pattern ≡ pattern_of tree

-- the text is read into these items, few enough, each name of which is defined
pub record IsNamed (ds : List Definition) (text : List ℕ) (items : List Placed) : Type 0 where
  pub read : Reads text items
  pub defined : first_undefined ds items ≡ None
  pub few : length items ≤ most_bytes

-- the text is read to its end, and the first name that is not defined stands at the offset
pub record IsUndefinedAt (bytes : List ℕ) (ds : List Definition) (at : ℕ) : Type 0 where
  pub items : List Placed
  pub read : Reads bytes items
  pub first : first_undefined ds items ≡ Some at

-- the tree of the text, with the definitions put in, passes the limit
pub record IsBeyond (bytes : List ℕ) (ds : List Definition) (fault : PatternFault) : Type 0 where
  pub tree : Tree
  pub is_tree : IsTreeOf ds bytes tree
  pub passes : limit_of tree ≡ Some fault

-- What each fault says of a text. No cycle is told of one.
abbrev pub IsFault : List ℕ → List Definition → PatternFault → Type 0
IsFault bytes ds (faults.Anchor at) = IsFirstStop bytes (faults.Anchor at)
IsFault bytes ds (faults.Trailing at) = IsFirstStop bytes (faults.Trailing at)
IsFault bytes ds (faults.Condition at) = IsFirstStop bytes (faults.Condition at)
IsFault bytes ds (faults.Collation at) = IsFirstStop bytes (faults.Collation at)
IsFault bytes ds (faults.Syntax at) = IsFirstStop bytes (faults.Syntax at)
IsFault bytes ds (faults.UndefinedName at) = IsUndefinedAt bytes ds at
IsFault bytes ds (faults.DefinitionCycle at) = ⊥
IsFault bytes ds (faults.TooDeep found most) = IsBeyond bytes ds (faults.TooDeep found most)
IsFault bytes ds (faults.TooManyPositions most) = IsBeyond bytes ds (faults.TooManyPositions most)

-- memory may run out
abbrev pub RefusesText : List ℕ → List Definition → errors.PatternError → Type 0
RefusesText bytes ds (error_kinds.Fault fault) = IsFault bytes ds fault
RefusesText bytes ds error_kinds.Memory = Unit {0}
