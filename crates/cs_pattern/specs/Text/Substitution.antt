-- What a text stands for when definitions are put in for its names (POSIX.1-2017, lex, "Definitions in lex": `{name}` is
-- replaced by the substitute of its definition, as if in parentheses).
use Rattle.std.specs.Prelude.{◌≡◌, ◌⊎◌, ℕ, List, Some, slice_get}
use Rattle.cs_pattern_parts.specs.Items.Items.{Placed, items_of}
use Rattle.cs_pattern.specs.Text.Table.{Reads}
use Rattle.cs_pattern.specs.Operations.Definitions.{Definition, index_of}
use Rattle.cs_pattern.specs.Operations.Grammar.{Tree, Branch, Piece, Atom, IsDerivation}
use Rattle.cs_pattern.specs.Operations.PuttingIn as put_in

-- the text is read to its end, and its items have this derivation
pub record SpellsTree (text : List ℕ) (tree : Tree) : Type 0 where
  pub items : List Placed
  pub read : Reads text items
  pub derived : IsDerivation (items_of items) tree

-- the definition that a name stands for
pub record Defines (ds : List Definition) (name : List ℕ) (d : Definition) : Type 0 where
  pub index : ℕ
  pub found : index_of name ds ≡ Some index
  pub is : slice_get ds index ≡ Some d

-- the name stands for a tree that the text of its definition has with definitions put in
abbrev pub StandsFor : List Definition → List ℕ → Tree → (Tree → Type 0) → Type 0
StandsFor ds name tree Is = (d : Definition) × (spelled : Tree) × Defines ds name d × SpellsTree d.text spelled × Is spelled

-- The first tree is the second with definitions put in for its names: where the second has a name, the first has a group of
-- the tree of the name's definition, in which definitions are put in likewise. Such a tree is finite, so there is none where
-- a definition that is used reaches itself.
abbrev pub PutIn : List Definition → Tree → Tree → Type 0
PutIn ds = put_in.PutIn (StandsFor ds)

abbrev pub BranchPutIn : List Definition → Branch → Branch → Type 0
BranchPutIn ds = put_in.BranchPutIn (StandsFor ds)

abbrev pub PiecePutIn : List Definition → Piece → Piece → Type 0
PiecePutIn ds = put_in.PiecePutIn (StandsFor ds)

abbrev pub AtomPutIn : List Definition → Atom → Atom → Type 0
AtomPutIn ds = put_in.AtomPutIn (StandsFor ds)

-- the tree of a text with the definitions put in
pub record IsTreeOf (ds : List Definition) (text : List ℕ) (tree : Tree) : Type 0 where
  pub spelled : Tree
  pub is_spelled : SpellsTree text spelled
  pub put_in : PutIn ds tree spelled
