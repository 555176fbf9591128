-- The operations of a tree: on a stack, each behind what it works on.
use Rattle.std.specs.Prelude.{ℕ, ◌+◌, List, [], ◌∷◌, ◌++◌, length, map, unwrap_or}
use Rattle.cs_pattern_parts.specs.declared.items.item.Repetition.{Repetition}
use Rattle.cs_pattern.specs.declared.operations.operations.Op as code
use Rattle.cs_pattern.specs.declared.operations.operations.Op.TheVariants as ops
use Rattle.cs_pattern.specs.Operations.Definitions.{Definition, index_of}
use Rattle.cs_pattern.specs.Operations.Grammar.{Tree, LastBranch, Or, Branch, LastPiece, Beside, Piece, Repeated, Atom, Bytes, Quote, Name, Group}

pub data Op : Type 0 where
  class : List ℕ → Op
  quoted : List ℕ → Op
  -- a definition, by its index
  substitute : ℕ → Op
  repeat : Repetition → Op
  -- a group or a substitution ends
  group : Op
  -- so many pieces make a branch
  join : ℕ → Op
  -- so many branches make a pattern
  either : ℕ → Op

abbrev pub op_of : code.Op → Op
op_of (ops.Class set) = class set
op_of (ops.Quoted bytes) = quoted bytes.items
op_of (ops.Substitute index) = substitute index
op_of (ops.Repeat r) = repeat r
op_of ops.Group = group
op_of (ops.Join count) = join count
op_of (ops.Either count) = either count

abbrev pub ops_of : List code.Op → List Op
ops_of = map op_of

-- the index of a name's definition, or how many there are
abbrev pub number_of : List Definition → List ℕ → ℕ
number_of ds name = unwrap_or (index_of name ds) (length ds)

abbrev pub branch_count : Tree → ℕ
branch_count (LastBranch b) = 1
branch_count (Or b t) = 1 + branch_count t

abbrev pub piece_count : Branch → ℕ
piece_count (LastPiece p) = 1
piece_count (Beside p b) = 1 + piece_count b

-- where each name has a number; a definition is put in as a group
module _ (number : List ℕ → ℕ) where
  abbrev mutual
    pub branches_ops : Tree → List Op
    branches_ops (LastBranch b) = pieces_ops b ++ join (piece_count b) ∷ []
    branches_ops (Or b t) = pieces_ops b ++ join (piece_count b) ∷ branches_ops t

    pub pieces_ops : Branch → List Op
    pieces_ops (LastPiece p) = piece_ops p
    pieces_ops (Beside p b) = piece_ops p ++ pieces_ops b

    pub piece_ops : Piece → List Op
    piece_ops (Repeated a rs) = atom_ops a ++ map repeat rs

    pub atom_ops : Atom → List Op
    atom_ops (Bytes set) = class set ∷ []
    atom_ops (Quote bytes) = quoted bytes ∷ []
    atom_ops (Name name) = substitute (number name) ∷ group ∷ []
    atom_ops (Group t) = branches_ops t ++ either (branch_count t) ∷ group ∷ []

  abbrev pub tree_ops : Tree → List Op
  tree_ops t = branches_ops t ++ either (branch_count t) ∷ []
