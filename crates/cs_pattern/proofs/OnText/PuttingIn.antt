-- Trees with definitions put in.
use Rattle.std.proofs.Common.{◌≡◌, ℕ, List, [], ◌∷◌, ◌++◌, map, refl, sym, ap, ◌∙◌, subst, inl, inr}
use Rattle.std.specs.Prelude.{Some, slice_get}
use Rattle.cs_pattern_parts.specs.Items.Items.{Item, class, quoted, named, opening, closing, bar, repetition, items_of}
use Rattle.cs_pattern.specs.Operations.Definitions.{Definition, index_of}
use Rattle.cs_pattern.specs.Operations.Grammar.{Tree, LastBranch, Or, Branch, LastPiece, Beside, Piece, Repeated, Atom, Bytes, Quote, Name, Group, tree_items, branch_items, piece_items, atom_items}
use Rattle.cs_pattern.specs.Text.Substitution.{SpellsTree, Defines, PutIn, BranchPutIn, PiecePutIn, AtomPutIn, IsTreeOf}
use Rattle.cs_pattern.proofs.OnText.Readings.{one_reading}
use Rattle.cs_pattern.proofs.OnText.OneDerivation.{one_derivation}

pub one_spelled : (x y : List ℕ) (t u : Tree) → x ≡ y → SpellsTree x t → SpellsTree y u → t ≡ u
one_spelled x y t u e s r =
    let f = subst (λ (z : List ℕ). SpellsTree z t) e s in
    one_derivation (items_of f.items) t u f.derived (ap items_of (one_reading y f.items r.items f.read r.read) ∙ r.derived)

pub one_definition : (ds : List Definition) (n m : List ℕ) (d e : Definition) → n ≡ m → Defines ds n d → Defines ds m e → d ≡ e
one_definition ds n m d e same p q =
    let f : Some p.index ≡ Some q.index = sym p.found ∙ ap (λ (w : List ℕ). index_of w ds) same ∙ q.found in
    let i : p.index ≡ q.index = cc f in
    let g : Some d ≡ Some e = sym p.is ∙ ap (slice_get ds) i ∙ q.is in
    cc g

module _ (ds : List Definition) where
  mutual
    one_tree : (t u w : Tree) → PutIn ds t w → PutIn ds u w → t ≡ u
    one_tree (LastBranch b) (LastBranch c) w p q =
        let f = p.1 in let g = q.1 in
        let e : p.0 ≡ q.0 = cc (f, g) in
        ap LastBranch (one_branch b c q.0 (subst (BranchPutIn ds b) e p.2) q.2)
    one_tree (LastBranch b) (Or c u) w p q = let f = p.1 in let g = q.2 in absurd (cc (f, g))
    one_tree (Or b t) (LastBranch c) w p q = let f = p.2 in let g = q.1 in absurd (cc (f, g))
    one_tree (Or b t) (Or c u) w p q =
        let f = p.2 in let g = q.2 in
        let d : p.0 ≡ q.0 = cc (f, g) in
        let e : p.1 ≡ q.1 = cc (f, g) in
        let x = one_branch b c q.0 (subst (BranchPutIn ds b) d p.3) q.3 in
        let y = one_tree t u q.1 (subst (PutIn ds t) e p.4) q.4 in
        cc (x, y)

    one_branch : (b c w : Branch) → BranchPutIn ds b w → BranchPutIn ds c w → b ≡ c
    one_branch (LastPiece x) (LastPiece y) w p q =
        let f = p.1 in let g = q.1 in
        let e : p.0 ≡ q.0 = cc (f, g) in
        ap LastPiece (one_piece x y q.0 (subst (PiecePutIn ds x) e p.2) q.2)
    one_branch (LastPiece x) (Beside y c) w p q = let f = p.1 in let g = q.2 in absurd (cc (f, g))
    one_branch (Beside x b) (LastPiece y) w p q = let f = p.2 in let g = q.1 in absurd (cc (f, g))
    one_branch (Beside x b) (Beside y c) w p q =
        let f = p.2 in let g = q.2 in
        let d : p.0 ≡ q.0 = cc (f, g) in
        let e : p.1 ≡ q.1 = cc (f, g) in
        let h = one_piece x y q.0 (subst (PiecePutIn ds x) d p.3) q.3 in
        let k = one_branch b c q.1 (subst (BranchPutIn ds b) e p.4) q.4 in
        cc (h, k)

    one_piece : (x y w : Piece) → PiecePutIn ds x w → PiecePutIn ds y w → x ≡ y
    one_piece (Repeated a rs) (Repeated b ss) w p q =
        let f = p.1 in let g = q.1 in
        let d : p.0 ≡ q.0 = cc (f, g) in
        let e : rs ≡ ss = cc (f, g) in
        let h = one_atom a b q.0 (subst (AtomPutIn ds a) d p.2) q.2 in
        cc (e, h)

    one_atom : (a b w : Atom) → AtomPutIn ds a w → AtomPutIn ds b w → a ≡ b
    one_atom (Bytes s) (Bytes t) w p q = let e : s ≡ t = cc (p, q) in ap Bytes e
    one_atom (Bytes s) (Quote t) w p q = absurd (cc (p, q))
    one_atom (Bytes s) (Name n) w p q = absurd q
    one_atom (Bytes s) (Group u) w p (inl q) = let g = q.1 in absurd (cc (p, g))
    one_atom (Bytes s) (Group u) w p (inr q) = let g = q.1 in absurd (cc (p, g))
    one_atom (Quote s) (Bytes t) w p q = absurd (cc (p, q))
    one_atom (Quote s) (Quote t) w p q = let e : s ≡ t = cc (p, q) in ap Quote e
    one_atom (Quote s) (Name n) w p q = absurd q
    one_atom (Quote s) (Group u) w p (inl q) = let g = q.1 in absurd (cc (p, g))
    one_atom (Quote s) (Group u) w p (inr q) = let g = q.1 in absurd (cc (p, g))
    one_atom (Name n) b w p q = absurd p
    one_atom (Group t) (Bytes s) w (inl p) q = let f = p.1 in absurd (cc (f, q))
    one_atom (Group t) (Bytes s) w (inr p) q = let f = p.1 in absurd (cc (f, q))
    one_atom (Group t) (Quote s) w (inl p) q = let f = p.1 in absurd (cc (f, q))
    one_atom (Group t) (Quote s) w (inr p) q = let f = p.1 in absurd (cc (f, q))
    one_atom (Group t) (Name n) w p q = absurd q
    one_atom (Group t) (Group u) w (inl p) (inl q) =
        let f = p.1 in let g = q.1 in
        let e : p.0 ≡ q.0 = cc (f, g) in
        ap Group (one_tree t u q.0 (subst (PutIn ds t) e p.2) q.2)
    one_atom (Group t) (Group u) w (inl p) (inr q) = let f = p.1 in let g = q.1 in absurd (cc (f, g))
    one_atom (Group t) (Group u) w (inr p) (inl q) = let f = p.1 in let g = q.1 in absurd (cc (f, g))
    one_atom (Group t) (Group u) w (inr p) (inr q) =
        let f = p.1 in let g = q.1 in
        let e : p.0 ≡ q.0 = cc (f, g) in
        let d = one_definition ds p.0 q.0 p.2.0 q.2.0 e p.2.2 q.2.2 in
        let s = one_spelled p.2.0.text q.2.0.text p.2.1 q.2.1 (ap (λ (x : Definition). x.text) d) p.2.3 q.2.3 in
        ap Group (one_tree t u q.2.1 (subst (PutIn ds t) s p.2.4) q.2.4)

  -- a text has one tree with the definitions put in
  pub one_tree_of : (text : List ℕ) (t u : Tree) → IsTreeOf ds text t → IsTreeOf ds text u → t ≡ u
  one_tree_of text t u p q =
      let e = one_spelled text text p.spelled q.spelled refl p.is_spelled q.is_spelled in
      one_tree t u q.spelled (subst (PutIn ds t) e p.put_in) q.put_in

  -- the name is defined, and the text of its definition has a tree
  pub record HasTree (name : List ℕ) : Type 0 where
    pub definition : Definition
    pub defines : Defines ds name definition
    pub tree : Tree
    pub is_tree : IsTreeOf ds definition.text tree

  -- each name in the items has
  abbrev pub HaveTrees : List Item → Type 0
  HaveTrees [] = Unit {0}
  HaveTrees (named name ∷ xs) = HasTree name × HaveTrees xs
  HaveTrees (class set ∷ xs) = HaveTrees xs
  HaveTrees (quoted bytes ∷ xs) = HaveTrees xs
  HaveTrees (opening ∷ xs) = HaveTrees xs
  HaveTrees (closing ∷ xs) = HaveTrees xs
  HaveTrees (bar ∷ xs) = HaveTrees xs
  HaveTrees (repetition r ∷ xs) = HaveTrees xs

  split : (xs ys : List Item) → HaveTrees (xs ++ ys) → HaveTrees xs × HaveTrees ys
  split [] ys h = (tt, h)
  split (named name ∷ xs) ys h = let more = split xs ys h.1 in ((h.0, more.0), more.1)
  split (class set ∷ xs) ys h = split xs ys h
  split (quoted bytes ∷ xs) ys h = split xs ys h
  split (opening ∷ xs) ys h = split xs ys h
  split (closing ∷ xs) ys h = split xs ys h
  split (bar ∷ xs) ys h = split xs ys h
  split (repetition r ∷ xs) ys h = split xs ys h

  -- then definitions can be put in
  mutual
    pub put_tree : (t : Tree) → HaveTrees (tree_items t) → (u : Tree) × PutIn ds u t
    put_tree (LastBranch b) h = let x = put_branch b h in (LastBranch x.0, (b, refl, x.1))
    put_tree (Or b t) h =
        let parts = split (branch_items b) (bar ∷ tree_items t) h in
        let x = put_branch b parts.0 in
        let y = put_tree t parts.1 in
        (Or x.0 y.0, (b, t, refl, x.1, y.1))

    put_branch : (b : Branch) → HaveTrees (branch_items b) → (c : Branch) × BranchPutIn ds c b
    put_branch (LastPiece p) h = let x = put_piece p h in (LastPiece x.0, (p, refl, x.1))
    put_branch (Beside p b) h =
        let parts = split (piece_items p) (branch_items b) h in
        let x = put_piece p parts.0 in
        let y = put_branch b parts.1 in
        (Beside x.0 y.0, (p, b, refl, x.1, y.1))

    put_piece : (p : Piece) → HaveTrees (piece_items p) → (q : Piece) × PiecePutIn ds q p
    put_piece (Repeated a rs) h =
        let x = put_atom a (split (atom_items a) (map repetition rs) h).0 in
        (Repeated x.0 rs, (a, refl, x.1))

    put_atom : (a : Atom) → HaveTrees (atom_items a) → (b : Atom) × AtomPutIn ds b a
    put_atom (Bytes set) h = (Bytes set, refl)
    put_atom (Quote bytes) h = (Quote bytes, refl)
    put_atom (Name name) h = (Group h.0.tree, inr (name, refl, (h.0.definition, h.0.is_tree.spelled, h.0.defines, h.0.is_tree.is_spelled, h.0.is_tree.put_in)))
    put_atom (Group t) h =
        let x = put_tree t (split (tree_items t) (closing ∷ []) h).0 in
        (Group x.0, inl (t, refl, x.1))
