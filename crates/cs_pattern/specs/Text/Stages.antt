-- What the stages of checking definitions hold.
use Rattle.std.specs.Prelude.{◌≡◌, ◌⊎◌, ◌↔◌, ℕ, ◌<◌, ◌≤◌, ◌^◌, List, Some, None, length, slice_get, slice_index, slice_index_or}
use Rattle.std.specs.Global.{Vec}
use Rattle.cs_graph.specs.Graph.{Edge}
use Rattle.cs_pattern_parts.specs.declared.items.item.Placed as held
use Rattle.cs_pattern_parts.specs.Items.Items.{Placed, items_of}
use Rattle.cs_pattern_parts.specs.Items.Views.{placed_all}
use Rattle.cs_pattern.specs.declared.text.fault.CheckError as errors
use Rattle.cs_pattern.specs.declared.text.fault.CheckError.TheVariants as error_kinds
use Rattle.cs_pattern.specs.declared.operations.measure.Measure.{Measure}
use Rattle.cs_pattern.specs.declared.operations.operations.Op as code
use Rattle.cs_pattern.specs.Operations.Definitions.{Definition}
use Rattle.cs_pattern.specs.Operations.Grammar.{Tree}
use Rattle.cs_pattern.specs.Text.Names.{first_undefined}
use Rattle.cs_pattern.specs.Operations.Operations.{ops_of, tree_ops, number_of}
use Rattle.cs_pattern.specs.Text.Substitution.{SpellsTree, IsTreeOf}
use Rattle.cs_pattern.specs.Operations.Depth.{depth, measure_of, leaf}
use Rattle.cs_pattern.specs.Text.Table.{Reads, IsFirstStop}
use Rattle.cs_pattern.specs.Text.Uses.{used, Uses, UsesDefinition, Reaches}
use Rattle.cs_pattern.specs.Text.Answers.{limit_of}
use Rattle.cs_pattern.specs.Text.Checked.{IsOrder}
use Rattle.cs_pattern.specs.Text.Checking.{Each, HasAllNames, HasNoCycle, RefusesDefinitions}

-- the text of the definition of that index stops with the fault; memory may run out
abbrev pub StopsAs : ℕ → List ℕ → errors.CheckError → Type 0
StopsAs index text (error_kinds.Fault at fault) = (at ≡ index) × IsFirstStop text fault
StopsAs index text error_kinds.Memory = Unit {0}

-- the items of the text at the index stand there
pub record HasItems (all : List (Vec held.Placed)) (index : ℕ) (text : List ℕ) : Type 0 where
  pub items : Vec held.Placed
  pub there : slice_get all index ≡ Some items
  pub read : Reads text (placed_all items.items)
  pub short : length items.items ≤ length text

-- the items of each text
pub record AreRead (ds : List Definition) (all : List (Vec held.Placed)) : Type 0 where
  pub count : length all ≡ length ds
  pub each : (i : ℕ) (d : Definition) → slice_get ds i ≡ Some d → HasItems all i d.text

-- each name that they use is defined
abbrev pub AreNamed : List Definition → List (Vec held.Placed) → Type 0
AreNamed ds all = (i : ℕ) (items : Vec held.Placed) → slice_get all i ≡ Some items → first_undefined ds (placed_all items.items) ≡ None

-- The graph of uses: an edge from each definition to each that it uses.
pub record IsUseGraph (ds : List Definition) (graph : List (Vec ℕ)) : Type 0 where
  pub count : length graph ≡ length ds
  pub used : (from to : ℕ) → Edge graph from to → UsesDefinition ds from to
  pub all : (from to : ℕ) → UsesDefinition ds from to → Edge graph from to

-- the one definition is the other, or reaches it
abbrev pub Meets : List Definition → ℕ → ℕ → Type 0
Meets ds from to = (from ≡ to) ⊎ Reaches ds from to

-- Each definition has a number, two the same one exactly where each meets the other.
pub record AreComponents (ds : List Definition) (components : List ℕ) : Type 0 where
  pub count : length components ≡ length ds
  pub same : (one other : ℕ) → one < length ds → other < length ds → (slice_index components one ≡ slice_index components other) ↔ (Meets ds one other × Meets ds other one)

-- the definition uses what the item names
abbrev pub IsItemOf : List Definition → ℕ → Placed → Type 0
IsItemOf ds index p = (next : ℕ) → used ds p.item ≡ Some next → UsesDefinition ds index next

-- the definition uses what the items name
abbrev pub AreItemsOf : List Definition → ℕ → List Placed → Type 0
AreItemsOf ds index items = (next : ℕ) → Uses ds (items_of items) next → UsesDefinition ds index next

-- the operations of the text stand at the index
pub record HasOperations (ds : List Definition) (bodies : List (Vec code.Op)) (index : ℕ) (text : List ℕ) : Type 0 where
  pub ops : Vec code.Op
  pub there : slice_get bodies index ≡ Some ops
  pub tree : Tree
  pub spelled : SpellsTree text tree
  pub are : ops_of ops.items ≡ tree_ops (number_of ds) tree

-- the operations of each text
pub record AreOperations (ds : List Definition) (bodies : List (Vec code.Op)) : Type 0 where
  pub count : length bodies ≡ length ds
  pub each : (i : ℕ) (d : Definition) → slice_get ds i ≡ Some d → HasOperations ds bodies i d.text

-- the definition of the index has the known measure, if it has one
abbrev pub IsMeasured : List Definition → List Measure → ℕ → Type 0
IsMeasured ds known i = (d : Definition) (tree : Tree) → slice_get ds i ≡ Some d → IsTreeOf ds d.text tree → slice_index_or known i leaf ≡ measure_of tree

-- the measure of each definition
pub record AreMeasures (ds : List Definition) (known : List Measure) : Type 0 where
  pub count : length known ≡ length ds
  pub each : (i : ℕ) → IsMeasured ds known i

-- each definition has a tree, whose depth is a number of 32 bits
pub record HasTree (ds : List Definition) (text : List ℕ) : Type 0 where
  pub tree : Tree
  pub is_tree : IsTreeOf ds text tree
  pub shallow : depth tree < 2 ^ 32

-- each definition is within the limits
abbrev pub HoldLimits : List Definition → Type 0
HoldLimits ds = (i : ℕ) (d : Definition) (tree : Tree) → slice_get ds i ≡ Some d → IsTreeOf ds d.text tree → limit_of tree ≡ None

-- whatever definitions these are: the measures of their operations, made in this order
abbrev pub AreMeasuresOf : List (Vec code.Op) → List ℕ → List Measure → Type 0
AreMeasuresOf bodies order known = (ds : List Definition) → AreOperations ds bodies → IsOrder ds order → AreMeasures ds known

-- those whose measures these are hold the limits
abbrev pub TellLimits : List Measure → Type 0
TellLimits known = (ds : List Definition) → AreMeasures ds known → Each (HasTree ds) ds → HoldLimits ds

-- or are refused for one of them
abbrev pub TellRefusal : List Measure → errors.CheckError → Type 0
TellRefusal known error =
    (ds : List Definition) → AreMeasures ds known → Each (HasTree ds) ds → Each (HasAllNames ds) ds → HasNoCycle ds → RefusesDefinitions ds error
