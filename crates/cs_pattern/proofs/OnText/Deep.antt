-- How deep a tree with definitions put in can be.
use Rattle.std.proofs.Common.{◌≡◌, ℕ, ◌+◌, ◌≤◌, List, [], ◌∷◌, ◌++◌, length, map, sym, subst, inl, inr, arith, length-append}
use Rattle.std.specs.Prelude.{Some, max, slice_get}
use Rattle.std.proofs.lemmas.List.{length-map}
use Rattle.cs_pattern_parts.specs.Items.Items.{Item, repetition, opening, closing, bar}
use Rattle.cs_pattern.specs.Operations.Definitions.{Definition}
use Rattle.cs_pattern.specs.Operations.Grammar.{Tree, LastBranch, Or, Branch, LastPiece, Beside, Piece, Repeated, Atom, Bytes, Quote, Name, Group, tree_items, branch_items, piece_items, atom_items}
use Rattle.cs_pattern.specs.Text.Substitution.{PutIn, BranchPutIn, PiecePutIn, AtomPutIn, IsTreeOf}
use Rattle.cs_pattern.specs.Operations.Depth.{depth, branch_depth, piece_depth, atom_depth}
use Rattle.cs_pattern.specs.Text.Uses.{Uses}
use Rattle.cs_pattern.proofs.OnText.Using.{uses_left, uses_right}

module _ (ds : List Definition) (most : ℕ) where
  -- the definitions that these items use are at most so deep
  abbrev pub AreShallow : List Item → Type 0
  AreShallow xs = (i : ℕ) → Uses ds xs i → (d : Definition) (tree : Tree) → slice_get ds i ≡ Some d → IsTreeOf ds d.text tree → depth tree ≤ most

  left : (xs ys : List Item) → AreShallow (xs ++ ys) → AreShallow xs
  left xs ys k i h = k i (uses_left ds xs ys i h)

  right : (xs ys : List Item) → AreShallow (xs ++ ys) → AreShallow ys
  right xs ys k i h = k i (uses_right ds xs ys i h)

  mutual
    -- then a tree is at most as many levels deeper as it has items
    pub tree_deep : (t w : Tree) → PutIn ds t w → AreShallow (tree_items w) → depth t ≤ length (tree_items w) + most
    tree_deep (LastBranch b) w p k =
        let e = p.1 in
        let h = branch_deep b p.0 p.2 (subst (λ (x : Tree). AreShallow (tree_items x)) e k) in
        subst (λ (x : Tree). branch_depth b ≤ length (tree_items x) + most) (sym e) h
    tree_deep (Or b t) w p k =
        let e = p.2 in
        let j = subst (λ (x : Tree). AreShallow (tree_items x)) e k in
        let h = branch_deep b p.0 p.3 (left (branch_items p.0) (bar ∷ tree_items p.1) j) in
        let more = tree_deep t p.1 p.4 (right (bar ∷ []) (tree_items p.1) (right (branch_items p.0) (bar ∷ tree_items p.1) j)) in
        subst (λ (x : Tree). max (branch_depth b) (depth t) ≤ length (tree_items x) + most) (sym e) (omega (arith, h, more, length-append (branch_items p.0) (bar ∷ tree_items p.1)))

    branch_deep : (b w : Branch) → BranchPutIn ds b w → AreShallow (branch_items w) → branch_depth b ≤ length (branch_items w) + most
    branch_deep (LastPiece q) w p k =
        let e = p.1 in
        let h = piece_deep q p.0 p.2 (subst (λ (x : Branch). AreShallow (branch_items x)) e k) in
        subst (λ (x : Branch). piece_depth q ≤ length (branch_items x) + most) (sym e) h
    branch_deep (Beside q b) w p k =
        let e = p.2 in
        let j = subst (λ (x : Branch). AreShallow (branch_items x)) e k in
        let h = piece_deep q p.0 p.3 (left (piece_items p.0) (branch_items p.1) j) in
        let more = branch_deep b p.1 p.4 (right (piece_items p.0) (branch_items p.1) j) in
        subst (λ (x : Branch). max (piece_depth q) (branch_depth b) ≤ length (branch_items x) + most) (sym e) (omega (arith, h, more, length-append (piece_items p.0) (branch_items p.1)))

    piece_deep : (q w : Piece) → PiecePutIn ds q w → AreShallow (piece_items w) → piece_depth q ≤ length (piece_items w) + most
    piece_deep (Repeated a rs) w p k =
        let e = p.1 in
        let j = subst (λ (x : Piece). AreShallow (piece_items x)) e k in
        let h = atom_deep a p.0 p.2 (left (atom_items p.0) (map repetition rs) j) in
        subst (λ (x : Piece). atom_depth a + length rs ≤ length (piece_items x) + most) (sym e) (omega (arith, h, length-append (atom_items p.0) (map repetition rs), length-map rs repetition))

    atom_deep : (a w : Atom) → AtomPutIn ds a w → AreShallow (atom_items w) → atom_depth a ≤ length (atom_items w) + most
    atom_deep (Bytes set) w p k = omega arith
    atom_deep (Quote bytes) w p k = omega arith
    atom_deep (Name name) w p k = absurd p
    atom_deep (Group u) w (inl p) k =
        let e = p.1 in
        let j = subst (λ (x : Atom). AreShallow (atom_items x)) e k in
        let h = tree_deep u p.0 p.2 (left (tree_items p.0) (closing ∷ []) (right (opening ∷ []) (tree_items p.0 ++ closing ∷ []) j)) in
        subst (λ (x : Atom). depth u + 1 ≤ length (atom_items x) + most) (sym e) (omega (arith, h, length-append (tree_items p.0) (closing ∷ [])))
    atom_deep (Group u) w (inr p) k =
        let e = p.1 in
        let j = subst (λ (x : Atom). AreShallow (atom_items x)) e k in
        let defines = p.2.2 in
        let h : depth u ≤ most = j defines.index (inl defines.found) p.2.0 u defines.is (record { spelled = p.2.1; is_spelled = p.2.3; put_in = p.2.4 }) in
        subst (λ (x : Atom). depth u + 1 ≤ length (atom_items x) + most) (sym e) (omega (arith, h))

-- how deep the tree of a text is that has so many items
pub text_deep : (ds : List Definition) (most : ℕ) (t w : Tree) (xs : List Item) → PutIn ds t w → xs ≡ tree_items w → AreShallow ds most xs → depth t ≤ length xs + most
text_deep ds most t w xs put e k =
    subst (λ (ys : List Item). depth t ≤ length ys + most) (sym e) (tree_deep ds most t w put (subst (AreShallow ds most) e k))
