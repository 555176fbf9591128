-- What the reader answers.
use Rattle.std.specs.Prelude.{◌≡◌, ℕ, ◌+◌, ◌<◌, ◌≤◌, List, Some, length}
use Rattle.cs_pattern.specs.declared.text.place.PatternPlace.{PatternPlace}
use Rattle.cs_pattern.specs.declared.text.reading.Next as nexts
use Rattle.cs_pattern.specs.declared.text.reading.Next.TheVariants as next_kinds
use Rattle.cs_pattern.specs.declared.text.fault.PatternError as errors
use Rattle.cs_pattern.specs.declared.text.fault.PatternError.TheVariants as error_kinds
use Rattle.cs_pattern_parts.specs.Items.Spelling.{Spells}
use Rattle.cs_pattern.specs.Text.Table.{next_place, StopsWith, IsFirstStop}
use Rattle.cs_pattern_parts.specs.Items.Views.{item_of, placed_all}
use Rattle.cs_pattern_parts.specs.declared.items.item.Placed as held
use Rattle.cs_pattern_parts.specs.Tree.Pattern.{Regex}
use Rattle.cs_pattern.specs.declared.operations.operations.Op as code
use Rattle.cs_pattern.specs.Operations.Definitions.{Definition}
use Rattle.cs_pattern.specs.Operations.Depth.{depth, pattern_of}
use Rattle.cs_pattern.specs.Operations.Grammar.{Tree}
use Rattle.cs_pattern.specs.Operations.Operations.{ops_of, tree_ops, number_of}
use Rattle.cs_pattern.specs.Text.Answers.{IsNamed, IsPatternOf, RefusesText}
use Rattle.cs_pattern.specs.Text.Substitution.{PutIn}

-- what comes next in the text at the place
abbrev pub IsNext : List ℕ → PatternPlace → nexts.Next → Type 0
IsNext text p (next_kinds.Item i size next) = Spells text size (item_of i) × (next_place p (item_of i) ≡ Some next) × (0 < size) × (size ≤ length text) × (next.groups ≤ p.groups + 1)
IsNext text p (next_kinds.Stop why) = StopsWith p text why

-- the text stops with that fault; memory may run out
abbrev pub StopsReading : List ℕ → errors.PatternError → Type 0
StopsReading bytes (error_kinds.Fault fault) = IsFirstStop bytes fault
StopsReading bytes error_kinds.Memory = Unit {0}

-- some text is read into these items, each name of which is defined
abbrev pub AreNamedOfSome : List Definition → List held.Placed → Type 0
AreNamedOfSome ds items = (text : List ℕ) × IsNamed ds text (placed_all items)

-- whatever text the items are of, this is its pattern, or why it has none
abbrev pub GivePattern : List Definition → List held.Placed → Regex → Type 0
GivePattern ds items pattern = (text : List ℕ) → IsNamed ds text (placed_all items) → IsPatternOf ds text pattern

abbrev pub GiveRefusal : List Definition → List held.Placed → errors.PatternError → Type 0
GiveRefusal ds items error = (text : List ℕ) → IsNamed ds text (placed_all items) → RefusesText text ds error

-- the operations are those of a tree, which is at most 200 deep with the definitions put in
pub record IsWithinDepth (ds : List Definition) (ops : List code.Op) : Type 0 where
  pub tree : Tree
  pub spelled : Tree
  pub put_in : PutIn ds tree spelled
  pub are : ops_of ops ≡ tree_ops (number_of ds) spelled
  pub shallow : depth tree ≤ 200

-- the pattern of the tree that has these operations, with the definitions put in
abbrev pub IsPutIn : List Definition → List code.Op → Regex → Type 0
IsPutIn ds ops pattern =
    (tree spelled : Tree) → PutIn ds tree spelled → ops_of ops ≡ tree_ops (number_of ds) spelled → pattern ≡ pattern_of tree
