-- What checking definitions answers.
use Rattle.std.specs.Prelude.{◌≡◌, ℕ, ◌<◌, List, Some, None, slice_get}
use Rattle.cs_pattern.specs.declared.text.fault.PatternFault.{PatternFault}
use Rattle.cs_pattern.specs.declared.text.fault.PatternFault.TheVariants.{UndefinedName, DefinitionCycle}
use Rattle.cs_pattern.specs.declared.text.fault.CheckError as errors
use Rattle.cs_pattern.specs.declared.text.fault.CheckError.TheVariants as error_kinds
use Rattle.cs_pattern.specs.Text.Answers.{IsBeyond, IsPatternOf}
use Rattle.cs_pattern.specs.Operations.Definitions.{Definition}
use Rattle.cs_pattern_parts.specs.Items.Items.{Placed}
use Rattle.cs_pattern.specs.Text.Names.{first_undefined}
use Rattle.cs_pattern_parts.specs.Tree.Pattern.{Regex}
use Rattle.cs_pattern.specs.Text.Table.{Reads, IsFirstStop}
use Rattle.cs_pattern.specs.Text.Uses.{Reaches, IsFirstTo}

-- a text is read to its end
abbrev pub IsReadable : List ℕ → Type 0
IsReadable text = (items : List Placed) × Reads text items

-- a text is read to its end, and each name that it uses is defined
abbrev pub HasAllNames : List Definition → List ℕ → Type 0
HasAllNames ds text = (items : List Placed) × Reads text items × (first_undefined ds items ≡ None)

-- a text is a pattern within the limits
abbrev pub IsAccepted : List Definition → List ℕ → Type 0
IsAccepted ds text = (pattern : Regex) × IsPatternOf ds text pattern

-- the texts of all definitions, or of those before an index, are as told
abbrev pub Each : (List ℕ → Type 0) → List Definition → Type 0
Each P ds = (i : ℕ) (d : Definition) → slice_get ds i ≡ Some d → P d.text

abbrev pub EachBefore : ℕ → (List ℕ → Type 0) → List Definition → Type 0
EachBefore end P ds = (i : ℕ) (d : Definition) → i < end → slice_get ds i ≡ Some d → P d.text

-- no definition reaches itself
abbrev pub HasNoCycle : List Definition → Type 0
HasNoCycle ds = (i : ℕ) → Reaches ds i i → ⊥

-- all definitions are accepted
abbrev pub AreAccepted : List Definition → Type 0
AreAccepted ds = Each (IsAccepted ds) ds

-- The reading of the definition's text stops, and that of none before it.
pub record IsStopped (ds : List Definition) (index : ℕ) (fault : PatternFault) : Type 0 where
  pub definition : Definition
  pub is : slice_get ds index ≡ Some definition
  pub stops : IsFirstStop definition.text fault
  pub before : EachBefore index IsReadable ds

-- All texts are read. The first name of the definition's text that is not defined stands at the offset, and those before it
-- use no such name.
pub record IsUndefined (ds : List Definition) (index at : ℕ) : Type 0 where
  pub definition : Definition
  pub is : slice_get ds index ≡ Some definition
  pub items : List Placed
  pub read : Reads definition.text items
  pub first : first_undefined ds items ≡ Some at
  pub before : EachBefore index (HasAllNames ds) ds
  pub readable : Each IsReadable ds

-- All texts are read and all names are defined. The definition reaches itself, first by the name at the offset, and none
-- before it does.
pub record IsCyclic (ds : List Definition) (index at : ℕ) : Type 0 where
  pub definition : Definition
  pub is : slice_get ds index ≡ Some definition
  pub items : List Placed
  pub read : Reads definition.text items
  pub first : IsFirstTo ds index items at
  pub before : (i : ℕ) → i < index → Reaches ds i i → ⊥
  pub named : Each (HasAllNames ds) ds

-- All texts are read, all names are defined, and no definition reaches itself. The definition passes the limit, and those
-- before it are accepted.
pub record IsTooLarge (ds : List Definition) (index : ℕ) (fault : PatternFault) : Type 0 where
  pub definition : Definition
  pub is : slice_get ds index ≡ Some definition
  pub beyond : IsBeyond definition.text ds fault
  pub before : EachBefore index (IsAccepted ds) ds
  pub named : Each (HasAllNames ds) ds
  pub no_cycle : HasNoCycle ds

-- Why definitions are refused, the first that applies.
pub data IsRefused (ds : List Definition) (index : ℕ) (fault : PatternFault) : Type 0 where
  stopped : IsStopped ds index fault → IsRefused ds index fault
  undefined : (at : ℕ) → fault ≡ UndefinedName at → IsUndefined ds index at → IsRefused ds index fault
  cyclic : (at : ℕ) → fault ≡ DefinitionCycle at → IsCyclic ds index at → IsRefused ds index fault
  too_large : IsTooLarge ds index fault → IsRefused ds index fault

-- memory may run out
abbrev pub RefusesDefinitions : List Definition → errors.CheckError → Type 0
RefusesDefinitions ds (error_kinds.Fault index fault) = IsRefused ds index fault
RefusesDefinitions ds error_kinds.Memory = Unit {0}
