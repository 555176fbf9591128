-- The value of a tree in an algebra.
use Rattle.std.specs.Prelude.{ℕ, List, [], ◌∷◌}
use Rattle.cs_pattern_parts.specs.declared.items.item.Repetition.{Repetition}
use Rattle.cs_pattern.specs.Operations.Evaluation.{Algebra}
use Rattle.cs_pattern.specs.Operations.Grammar.{Tree, LastBranch, Or, Branch, LastPiece, Beside, Piece, Repeated, Atom, Bytes, Quote, Name, Group}

module _ {V : Type 0} (a : Algebra V) where
  abbrev pub repeated_value : V → List Repetition → V
  repeated_value v [] = v
  repeated_value v (r ∷ rs) = repeated_value (a.repeat r v) rs

-- where each name has a number
module _ {V : Type 0} (a : Algebra V) (number : List ℕ → ℕ) where
  abbrev mutual
    pub branch_values : Tree → List V
    branch_values (LastBranch b) = a.join (piece_values b) ∷ []
    branch_values (Or b t) = a.join (piece_values b) ∷ branch_values t

    pub piece_values : Branch → List V
    piece_values (LastPiece p) = piece_value p ∷ []
    piece_values (Beside p b) = piece_value p ∷ piece_values b

    pub piece_value : Piece → V
    piece_value (Repeated x rs) = repeated_value a (atom_value x) rs

    pub atom_value : Atom → V
    atom_value (Bytes set) = a.class set
    atom_value (Quote bytes) = a.quoted bytes
    atom_value (Name name) = a.group (a.substitute (number name))
    atom_value (Group t) = a.group (a.either (branch_values t))

  abbrev pub tree_value : Tree → V
  tree_value t = a.either (branch_values t)
