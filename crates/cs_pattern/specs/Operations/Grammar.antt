-- The grammar of patterns, over the items of a text, as derivation trees with what they spell.
use Rattle.std.specs.Prelude.{◌≡◌, ℕ, List, [], ◌∷◌, ◌++◌, map}
use Rattle.cs_pattern_parts.specs.declared.items.item.Repetition.{Repetition}
use Rattle.cs_pattern_parts.specs.Items.Items as items
use Rattle.cs_pattern_parts.specs.Items.Items.{Item}
use Rattle.cs_pattern_parts.specs.Tree.Pattern.{Regex, Class, Join, Either, Parts, Nothing, Then, alone_or}
use Rattle.cs_pattern_parts.specs.Tree.Repeated as repeats

mutual
  -- pattern = branch { "|" branch }
  pub data Tree : Type 0 where
    LastBranch : (branch : Branch) → Tree
    Or : (branch : Branch) → (others : Tree) → Tree

  -- branch = piece { piece }
  pub data Branch : Type 0 where
    LastPiece : (piece : Piece) → Branch
    Beside : (piece : Piece) → (others : Branch) → Branch

  -- piece = atom { repetition }
  pub data Piece : Type 0 where
    Repeated : (atom : Atom) → (repetitions : List Repetition) → Piece

  -- atom = byte | escape | "." | bracket | quoted | "{name}" | "(" pattern ")"
  pub data Atom : Type 0 where
    Bytes : (set : List ℕ) → Atom
    Quote : (bytes : List ℕ) → Atom
    Name : (name : List ℕ) → Atom
    Group : (tree : Tree) → Atom

-- the items that a tree spells
abbrev mutual
  pub tree_items : Tree → List Item
  tree_items (LastBranch b) = branch_items b
  tree_items (Or b t) = branch_items b ++ items.bar ∷ tree_items t

  pub branch_items : Branch → List Item
  branch_items (LastPiece p) = piece_items p
  branch_items (Beside p b) = piece_items p ++ branch_items b

  pub piece_items : Piece → List Item
  piece_items (Repeated a rs) = atom_items a ++ map items.repetition rs

  pub atom_items : Atom → List Item
  atom_items (Bytes set) = items.class set ∷ []
  atom_items (Quote bytes) = items.quoted bytes ∷ []
  atom_items (Name name) = items.named name ∷ []
  atom_items (Group t) = items.opening ∷ (tree_items t ++ items.closing ∷ [])

-- these items are a pattern, with this derivation
abbrev pub IsDerivation : List Item → Tree → Type 0
IsDerivation xs t = xs ≡ tree_items t

-- the pattern, with these repetitions one after another
abbrev pub all_repeated : Regex → List Repetition → Regex
all_repeated r [] = r
all_repeated r (n ∷ rs) = all_repeated (repeats.repeated r n) rs

-- the pattern of a tree, where each name stands for a pattern, put in as a tree
module _ (put_in : List ℕ → Regex) where
  abbrev mutual
    pub branch_parts : Tree → Parts
    branch_parts (LastBranch b) = Then (alone_or Join (piece_parts b)) Nothing
    branch_parts (Or b t) = Then (alone_or Join (piece_parts b)) (branch_parts t)

    pub piece_parts : Branch → Parts
    piece_parts (LastPiece p) = Then (piece_regex p) Nothing
    piece_parts (Beside p b) = Then (piece_regex p) (piece_parts b)

    pub piece_regex : Piece → Regex
    piece_regex (Repeated a rs) = all_repeated (atom_regex a) rs

    pub atom_regex : Atom → Regex
    atom_regex (Bytes set) = Class set
    atom_regex (Quote bytes) = repeats.quoted bytes
    atom_regex (Name name) = put_in name
    atom_regex (Group t) = alone_or Either (branch_parts t)

  abbrev pub tree_regex : Tree → Regex
  tree_regex t = alone_or Either (branch_parts t)
