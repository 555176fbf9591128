-- The operations of a text give the tree with the definitions put in, where what is known of these is so of their trees.
use Rattle.std.proofs.Common.{◌≡◌, ℕ, List, [], ◌∷◌, ◌++◌, map, sym, subst, inl, inr}
use Rattle.std.specs.Prelude.{Some, slice_get}
use Rattle.cs_pattern_parts.specs.Items.Items.{Item, repetition, named, opening, closing, bar}
use Rattle.cs_pattern.specs.Operations.Definitions.{Definition}
use Rattle.cs_pattern.specs.Operations.Grammar.{Tree, LastBranch, Or, Branch, LastPiece, Beside, Piece, Repeated, Atom, Bytes, Quote, Name, Group, tree_items, branch_items, piece_items, atom_items}
use Rattle.cs_pattern.specs.Operations.Operations.{Op, number_of, tree_ops}
use Rattle.cs_pattern.specs.Operations.Trees as trees
use Rattle.cs_pattern.specs.Operations.Trees.{GiveTree}
use Rattle.cs_pattern.specs.Text.Substitution.{SpellsTree, Defines, PutIn, BranchPutIn, PiecePutIn, AtomPutIn, IsTreeOf}
use Rattle.cs_pattern.specs.Text.Uses.{Uses}
use Rattle.cs_pattern.proofs.OnText.Using.{uses_left, uses_right, number_is}

module _ (ds : List Definition) (Has : ℕ → Tree → Type 0) where
  -- it is so of the trees of the definitions that these items use
  abbrev pub AreSo : List Item → Type 0
  AreSo xs = (i : ℕ) → Uses ds xs i → (d : Definition) (tree : Tree) → slice_get ds i ≡ Some d → IsTreeOf ds d.text tree → Has i tree

  abbrev IsFor : List ℕ → Tree → Type 0
  IsFor name = Has (number_of ds name)

  left : (xs ys : List Item) → AreSo (xs ++ ys) → AreSo xs
  left xs ys k i h = k i (uses_left ds xs ys i h)

  right : (xs ys : List Item) → AreSo (xs ++ ys) → AreSo ys
  right xs ys k i h = k i (uses_right ds xs ys i h)

  name_given : (name : List ℕ) (d : Definition) (u t : Tree) → Defines ds name d → SpellsTree d.text t → PutIn ds u t → AreSo (named name ∷ []) → IsFor name u
  name_given name d u t def spells put k =
      subst (λ n. Has n u) (sym (number_is ds name d def)) (k def.index (inl def.found) d u def.is (record { spelled = t; is_spelled = spells; put_in = put }))

  mutual
    tree_given : (u t : Tree) → PutIn ds u t → AreSo (tree_items t) → trees.PutIn IsFor u t
    tree_given (LastBranch b) t p k = (p.0, p.1, branch_given b p.0 p.2 (subst (λ (x : Tree). AreSo (tree_items x)) p.1 k))
    tree_given (Or b u) t p k =
        let j = subst (λ (x : Tree). AreSo (tree_items x)) p.2 k in (
          p.0,
          p.1,
          p.2,
          branch_given b p.0 p.3 (left (branch_items p.0) (bar ∷ tree_items p.1) j),
          tree_given u p.1 p.4 (right (bar ∷ []) (tree_items p.1) (right (branch_items p.0) (bar ∷ tree_items p.1) j)),
        )

    branch_given : (b c : Branch) → BranchPutIn ds b c → AreSo (branch_items c) → trees.BranchPutIn IsFor b c
    branch_given (LastPiece q) c p k = (p.0, p.1, piece_given q p.0 p.2 (subst (λ (x : Branch). AreSo (branch_items x)) p.1 k))
    branch_given (Beside q b) c p k =
        let j = subst (λ (x : Branch). AreSo (branch_items x)) p.2 k in (
          p.0,
          p.1,
          p.2,
          piece_given q p.0 p.3 (left (piece_items p.0) (branch_items p.1) j),
          branch_given b p.1 p.4 (right (piece_items p.0) (branch_items p.1) j),
        )

    piece_given : (q w : Piece) → PiecePutIn ds q w → AreSo (piece_items w) → trees.PiecePutIn IsFor q w
    piece_given (Repeated a rs) w p k =
        (p.0, p.1, atom_given a p.0 p.2 (left (atom_items p.0) (map repetition rs) (subst (λ (x : Piece). AreSo (piece_items x)) p.1 k)))

    atom_given : (a w : Atom) → AtomPutIn ds a w → AreSo (atom_items w) → trees.AtomPutIn IsFor a w
    atom_given (Bytes set) w p k = p
    atom_given (Quote bytes) w p k = p
    atom_given (Name name) w p k = absurd p
    atom_given (Group u) w (inl p) k =
        let j = subst (λ (x : Atom). AreSo (atom_items x)) p.1 k in
        inl (p.0, p.1, tree_given u p.0 p.2 (left (tree_items p.0) (closing ∷ []) (right (opening ∷ []) (tree_items p.0 ++ closing ∷ []) j)))
    atom_given (Group u) w (inr p) k =
        inr (p.0, p.1, name_given p.0 p.2.0 u p.2.1 p.2.2 p.2.3 p.2.4 (subst (λ (x : Atom). AreSo (atom_items x)) p.1 k))

  pub given : (ops : List Op) (tree spelled : Tree) → PutIn ds tree spelled → AreSo (tree_items spelled) → ops ≡ tree_ops (number_of ds) spelled → GiveTree Has ops tree
  given ops tree spelled put k e = record { number = number_of ds; spelled = spelled; are = e; put_in = tree_given tree spelled put k }
