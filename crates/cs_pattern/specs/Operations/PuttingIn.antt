-- Trees with trees put in for their names.
use Rattle.std.specs.Prelude.{◌≡◌, ◌⊎◌, ℕ, List}
use Rattle.cs_pattern.specs.Operations.Grammar.{Tree, LastBranch, Or, Branch, LastPiece, Beside, Piece, Repeated, Atom, Bytes, Quote, Name, Group}

-- The first tree is the second with a group in place of each name, of a tree for which the name stands. That may be said by
-- which trees this one is, in its turn, with trees put in.
module _ (StandsFor : List ℕ → Tree → (Tree → Type 0) → Type 0) where
  abbrev mutual
    pub PutIn : Tree → Tree → Type 0
    PutIn (LastBranch b) whole = (c : Branch) × (whole ≡ LastBranch c) × BranchPutIn b c
    PutIn (Or b t) whole = (c : Branch) × (u : Tree) × (whole ≡ Or c u) × BranchPutIn b c × PutIn t u

    pub BranchPutIn : Branch → Branch → Type 0
    BranchPutIn (LastPiece p) whole = (q : Piece) × (whole ≡ LastPiece q) × PiecePutIn p q
    BranchPutIn (Beside p b) whole = (q : Piece) × (c : Branch) × (whole ≡ Beside q c) × PiecePutIn p q × BranchPutIn b c

    pub PiecePutIn : Piece → Piece → Type 0
    PiecePutIn (Repeated a rs) whole = (x : Atom) × (whole ≡ Repeated x rs) × AtomPutIn a x

    pub AtomPutIn : Atom → Atom → Type 0
    AtomPutIn (Bytes set) whole = whole ≡ Bytes set
    AtomPutIn (Quote bytes) whole = whole ≡ Quote bytes
    AtomPutIn (Name name) whole = ⊥
    AtomPutIn (Group t) whole =
        ((u : Tree) × (whole ≡ Group u) × PutIn t u)
        ⊎ ((name : List ℕ) × (whole ≡ Name name) × StandsFor name t (PutIn t))
