-- The operations of a tree, and what they give with trees put in for its names: its measure and its pattern.
use Rattle.std.specs.Prelude.{◌≡◌, ◌⊎◌, ℕ, ◌≤◌, List, Option, Some, None, nat_eq, slice_index_or}
use Rattle.std.specs.Global.{Vec}
use Rattle.std.specs.Map.{lookup}
use Rattle.cs_pattern_parts.specs.Items.Items.{items_of}
use Rattle.cs_pattern_parts.specs.Items.Views.{placed_all}
use Rattle.cs_pattern_parts.specs.declared.items.item.Placed as placed_code
use Rattle.cs_pattern_parts.specs.declared.tree.pattern.Pattern.{Pattern}
use Rattle.cs_pattern_parts.specs.Tree.Pattern.{Regex, Empty, regex}
use Rattle.cs_pattern.specs.declared.operations.measure.Measure.{Measure}
use Rattle.cs_pattern.specs.declared.operations.operations.Op as op_code
use Rattle.cs_pattern.specs.Operations.Definitions.{definitions_of}
use Rattle.cs_pattern.specs.Operations.Depth.{depth, pattern_of, measure_of, leaf}
use Rattle.cs_pattern.specs.Operations.Grammar.{Tree, LastBranch, Or, Branch, LastPiece, Beside, Piece, Repeated, Atom, Bytes, Quote, Name, Group, IsDerivation}
use Rattle.cs_pattern.specs.Operations.PuttingIn as put_in
use Rattle.cs_pattern.specs.Operations.Operations.{Op, ops_of, number_of, tree_ops}

-- the number of a name among the entries
abbrev pub entry_number : List (Vec ℕ × Vec ℕ) → List ℕ → ℕ
entry_number entries = number_of (definitions_of entries)

-- the operations of the tree that derives the items
abbrev pub AreOperationsOf : List (Vec ℕ × Vec ℕ) → List placed_code.Placed → List op_code.Op → Type 0
AreOperationsOf entries items ops =
    (tree : Tree) → IsDerivation (items_of (placed_all items)) tree → ops_of ops ≡ tree_ops (entry_number entries) tree

-- the first tree is the second with a group in place of each name, of a tree that is for it
abbrev pub PutIn : (List ℕ → Tree → Type 0) → Tree → Tree → Type 0
PutIn IsFor = put_in.PutIn (λ name tree _. IsFor name tree)

abbrev pub BranchPutIn : (List ℕ → Tree → Type 0) → Branch → Branch → Type 0
BranchPutIn IsFor = put_in.BranchPutIn (λ name tree _. IsFor name tree)

abbrev pub PiecePutIn : (List ℕ → Tree → Type 0) → Piece → Piece → Type 0
PiecePutIn IsFor = put_in.PiecePutIn (λ name tree _. IsFor name tree)

abbrev pub AtomPutIn : (List ℕ → Tree → Type 0) → Atom → Atom → Type 0
AtomPutIn IsFor = put_in.AtomPutIn (λ name tree _. IsFor name tree)

-- The operations are those of a tree in which each name has a number, and this is the tree with trees put in that are for
-- these numbers.
pub record GiveTree (IsFor : ℕ → Tree → Type 0) (ops : List Op) (tree : Tree) : Type 0 where
  pub number : List ℕ → ℕ
  pub spelled : Tree
  pub are : ops ≡ tree_ops number spelled
  pub put_in : PutIn (λ name. IsFor (number name)) tree spelled

-- the known pattern of a definition
abbrev pub known_or_empty : Option Pattern → Regex
known_or_empty None = Empty
known_or_empty (Some p) = regex p

abbrev pub known_at : List (ℕ × Pattern) → ℕ → Regex
known_at known index = known_or_empty (lookup (nat_eq index) known)

-- the known measure at the index is the tree's
abbrev pub HasMeasure : List Measure → ℕ → Tree → Type 0
HasMeasure known index tree = slice_index_or known index leaf ≡ measure_of tree

-- the known pattern at the index is the tree's
abbrev pub HasPattern : List (ℕ × Pattern) → ℕ → Tree → Type 0
HasPattern known index tree = known_at known index ≡ pattern_of tree

-- the measure of the tree that the operations give with trees of the known measures
abbrev pub IsMeasureOf : List Measure → List Op → Measure → Type 0
IsMeasureOf known ops m = (tree : Tree) → GiveTree (HasMeasure known) ops tree → m ≡ measure_of tree

-- the pattern of the tree that they give with trees of the known patterns
abbrev pub IsPatternOf : List (ℕ × Pattern) → List Op → Regex → Type 0
IsPatternOf known ops r = (tree : Tree) → GiveTree (HasPattern known) ops tree → r ≡ pattern_of tree

-- they give a tree with at most 200 groups and repetitions around any atom
pub record GiveShallow (known : List (ℕ × Pattern)) (ops : List Op) : Type 0 where
  pub tree : Tree
  pub given : GiveTree (HasPattern known) ops tree
  pub shallow : depth tree ≤ 200
