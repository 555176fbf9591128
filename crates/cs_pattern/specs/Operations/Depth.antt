-- How deep a derivation tree is, and the pattern and the measure of a tree in which no names are left.
use Rattle.std.specs.Prelude.{ℕ, ◌+◌, ◌-◌, ◌^◌, min, max, length}
use Rattle.cs_pattern_parts.specs.Tree.Pattern.{Regex, Empty, leaves}
use Rattle.cs_pattern.specs.declared.operations.measure.Measure.{Measure}
use Rattle.cs_pattern.specs.Operations.Grammar.{Tree, LastBranch, Or, Branch, LastPiece, Beside, Piece, Repeated, Atom, Bytes, Quote, Name, Group, tree_regex}

-- how many groups and repetitions stand around the atom of a tree that has the most
abbrev mutual
  pub depth : Tree → ℕ
  depth (LastBranch b) = branch_depth b
  depth (Or b t) = max (branch_depth b) (depth t)

  pub branch_depth : Branch → ℕ
  branch_depth (LastPiece p) = piece_depth p
  branch_depth (Beside p b) = max (piece_depth p) (branch_depth b)

  pub piece_depth : Piece → ℕ
  piece_depth (Repeated a rs) = atom_depth a + length rs

  pub atom_depth : Atom → ℕ
  atom_depth (Bytes set) = 0
  atom_depth (Quote bytes) = 0
  atom_depth (Name name) = 0
  atom_depth (Group t) = depth t + 1

-- the pattern of a tree in which no names are left
abbrev pub pattern_of : Tree → Regex
pattern_of = tree_regex (λ name. Empty)

abbrev pub in_32_bits : ℕ → ℕ
in_32_bits n = min n (2 ^ 32 - 1)

-- so many groups and repetitions around an atom, and so many leaves, each at most the greatest number of 32 bits
abbrev pub measure : ℕ → ℕ → Measure
measure d l = record { depth = in_32_bits d; leaves = in_32_bits l }

-- the measure of a tree in which no names are left
abbrev pub measure_of : Tree → Measure
measure_of tree = measure (depth tree) (leaves (pattern_of tree))

abbrev pub leaf : Measure
leaf = measure 0 1
