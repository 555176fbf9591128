-- What checked definitions hold.
use Rattle.std.specs.Prelude.{◌≡◌, ℕ, ◌<◌, List, ◌∷◌, ◌++◌, Some, None, Contains, length, slice_get}
use Rattle.std.specs.Global.{Vec}
use Rattle.cs_pattern.specs.declared.operations.measure.Measure.{Measure}
use Rattle.cs_pattern.specs.declared.operations.operations.Op as code
use Rattle.cs_pattern.specs.Text.Answers.{limit_of}
use Rattle.cs_pattern.specs.Text.Classes.{HaveByteTexts}
use Rattle.cs_pattern.specs.Operations.Definitions.{Definition}
use Rattle.cs_pattern.specs.Operations.Depth.{measure_of}
use Rattle.cs_pattern.specs.Operations.Grammar.{Tree}
use Rattle.cs_pattern.specs.Operations.Operations.{ops_of, tree_ops, number_of}
use Rattle.cs_pattern.specs.Text.Substitution.{SpellsTree, PutIn}
use Rattle.cs_pattern.specs.Text.Uses.{UsesDefinition}

-- these are the operations of the definition, and its depth and leaves
pub record IsBody (ds : List Definition) (d : Definition) (ops : Vec code.Op) (measure : Measure) : Type 0 where
  pub spelled : Tree
  pub is_spelled : SpellsTree d.text spelled
  pub operations : ops_of ops.items ≡ tree_ops (number_of ds) spelled
  pub tree : Tree
  pub put_in : PutIn ds tree spelled
  pub within : limit_of tree ≡ None
  pub measured : measure ≡ measure_of tree

-- the definition at the index has its operations and its measure there
pub record HasBody (ds : List Definition) (bodies : List (Vec code.Op)) (measures : List Measure) (index : ℕ) (d : Definition) : Type 0 where
  pub ops : Vec code.Op
  pub measure : Measure
  pub ops_at : slice_get bodies index ≡ Some ops
  pub measure_at : slice_get measures index ≡ Some measure
  pub is : IsBody ds d ops measure

-- Each index stands in the order, and none but these, once, behind those that its definition uses.
pub record IsOrder (ds : List Definition) (order : List ℕ) : Type 0 where
  pub all : (i : ℕ) → i < length ds → Contains order i
  pub within : (i : ℕ) → Contains order i → i < length ds
  pub behind : (before after : List ℕ) (i j : ℕ) → order ≡ before ++ i ∷ after → UsesDefinition ds i j → Contains before j
  pub once : (before after : List ℕ) (i : ℕ) → order ≡ before ++ i ∷ after → Contains before i → ⊥

pub record AreChecked (ds : List Definition) (bodies : List (Vec code.Op)) (measures : List Measure) (order : List ℕ) : Type 0 where
  pub texts : HaveByteTexts ds
  pub body_count : length bodies ≡ length ds
  pub measure_count : length measures ≡ length ds
  pub each : (i : ℕ) (d : Definition) → slice_get ds i ≡ Some d → HasBody ds bodies measures i d
  pub in_order : IsOrder ds order
