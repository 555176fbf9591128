-- A definition that reaches itself has no tree.
use Rattle.std.proofs.Common.{◌≡◌, ℕ, ◌+◌, ◌<◌, ◌≤◌, List, [], ◌∷◌, map, sym, ap, ◌∙◌, subst, inl, inr, arith}
use Rattle.std.specs.Prelude.{Some, slice_get}
use Rattle.cs_pattern_parts.specs.Items.Items.{Item, named, closing, bar, repetition, items_of}
use Rattle.cs_pattern.specs.Operations.Definitions.{Definition}
use Rattle.cs_pattern.specs.Operations.Grammar.{Tree, LastBranch, Or, Branch, LastPiece, Beside, Piece, Repeated, Atom, Bytes, Quote, Name, Group, tree_items, branch_items, piece_items, atom_items}
use Rattle.cs_pattern.specs.Text.Substitution.{SpellsTree, Defines, PutIn, BranchPutIn, PiecePutIn, AtomPutIn, IsTreeOf}
use Rattle.cs_pattern.specs.Text.Table.{Reads}
use Rattle.cs_pattern.specs.Text.Uses.{Uses, UsesDefinition, Reaches, directly, through}
use Rattle.cs_pattern.proofs.OnText.PuttingIn.{one_tree_of}
use Rattle.cs_pattern.proofs.OnText.Readings.{one_reading}
use Rattle.cs_pattern.proofs.OnText.Using.{uses_cases, no_repetition}

-- how many groups a tree has
abbrev mutual
  tree_size : Tree → ℕ
  tree_size (LastBranch b) = branch_size b
  tree_size (Or b t) = branch_size b + tree_size t

  branch_size : Branch → ℕ
  branch_size (LastPiece p) = piece_size p
  branch_size (Beside p b) = piece_size p + branch_size b

  piece_size : Piece → ℕ
  piece_size (Repeated a rs) = atom_size a

  atom_size : Atom → ℕ
  atom_size (Bytes set) = 0
  atom_size (Quote bytes) = 0
  atom_size (Name name) = 0
  atom_size (Group t) = tree_size t + 1

record Smaller (ds : List Definition) (index bound : ℕ) : Type 0 where
  definition : Definition
  is : slice_get ds index ≡ Some definition
  tree : Tree
  is_tree : IsTreeOf ds definition.text tree
  less : tree_size tree < bound

within : (ds : List Definition) (i n m : ℕ) → n ≤ m → Smaller ds i n → Smaller ds i m
within ds i n m le s = record { definition = s.definition; is = s.is; tree = s.tree; is_tree = s.is_tree; less = (let l = s.less in omega arith) }

some_same : {A : Type 0} (x y : A) → Some x ≡ Some y → x ≡ y
some_same x y e = cc

module _ (ds : List Definition) where
  name_smaller : (name : List ℕ) (d : Definition) (u t : Tree) (i : ℕ) → Defines ds name d → SpellsTree d.text t → PutIn ds u t → Uses ds (named name ∷ []) i → Smaller ds i (tree_size u + 1)
  name_smaller name d u t i def s p (inl e) =
      let same : def.index ≡ i = some_same def.index i (sym def.found ∙ e) in
      record { definition = d; is = subst (λ n. slice_get ds n ≡ Some d) same def.is; tree = u; is_tree = record { spelled = t; is_spelled = s; put_in = p }; less = omega arith }
  name_smaller name d u t i def s p (inr e) = absurd e

  mutual
    tree_smaller : (u t : Tree) (i : ℕ) → PutIn ds u t → Uses ds (tree_items t) i → Smaller ds i (tree_size u)
    tree_smaller (LastBranch b) t i p h = let e = p.1 in branch_smaller b p.0 i p.2 (subst (λ (x : Tree). Uses ds (tree_items x) i) e h)
    tree_smaller (Or b u) t i p h =
        let e = p.2 in
        elim (uses_cases ds (branch_items p.0) (bar ∷ tree_items p.1) i (subst (λ (x : Tree). Uses ds (tree_items x) i) e h)) [
          | inl k ↦ within ds i (branch_size b) (branch_size b + tree_size u) (omega arith) (branch_smaller b p.0 i p.3 k)
          | inr k ↦ elim k [
            | inl f ↦ absurd cc
            | inr m ↦ within ds i (tree_size u) (branch_size b + tree_size u) (omega arith) (tree_smaller u p.1 i p.4 m)
          ]
        ]

    branch_smaller : (b c : Branch) (i : ℕ) → BranchPutIn ds b c → Uses ds (branch_items c) i → Smaller ds i (branch_size b)
    branch_smaller (LastPiece q) c i p h = let e = p.1 in piece_smaller q p.0 i p.2 (subst (λ (x : Branch). Uses ds (branch_items x) i) e h)
    branch_smaller (Beside q b) c i p h =
        let e = p.2 in
        elim (uses_cases ds (piece_items p.0) (branch_items p.1) i (subst (λ (x : Branch). Uses ds (branch_items x) i) e h)) [
          | inl k ↦ within ds i (piece_size q) (piece_size q + branch_size b) (omega arith) (piece_smaller q p.0 i p.3 k)
          | inr k ↦ within ds i (branch_size b) (piece_size q + branch_size b) (omega arith) (branch_smaller b p.1 i p.4 k)
        ]

    piece_smaller : (q w : Piece) (i : ℕ) → PiecePutIn ds q w → Uses ds (piece_items w) i → Smaller ds i (piece_size q)
    piece_smaller (Repeated a rs) w i p h =
        let e = p.1 in
        elim (uses_cases ds (atom_items p.0) (map repetition rs) i (subst (λ (x : Piece). Uses ds (piece_items x) i) e h)) [
          | inl k ↦ atom_smaller a p.0 i p.2 k
          | inr k ↦ absurd (no_repetition ds rs i k)
        ]

    atom_smaller : (a w : Atom) (i : ℕ) → AtomPutIn ds a w → Uses ds (atom_items w) i → Smaller ds i (atom_size a)
    atom_smaller (Bytes set) w i p h = elim (subst (λ (x : Atom). Uses ds (atom_items x) i) p h) [ inl f ↦ absurd cc | inr m ↦ absurd m ]
    atom_smaller (Quote bytes) w i p h = elim (subst (λ (x : Atom). Uses ds (atom_items x) i) p h) [ inl f ↦ absurd cc | inr m ↦ absurd m ]
    atom_smaller (Name name) w i p h = absurd p
    atom_smaller (Group u) w i (inl p) h =
        let e = p.1 in
        elim (subst (λ (x : Atom). Uses ds (atom_items x) i) e h) [
          | inl f ↦ absurd cc
          | inr m ↦ elim (uses_cases ds (tree_items p.0) (closing ∷ []) i m) [
            | inl k ↦ within ds i (tree_size u) (tree_size u + 1) (omega arith) (tree_smaller u p.0 i p.2 k)
            | inr k ↦ elim k [ inl f ↦ absurd cc | inr n ↦ absurd n ]
          ]
        ]
    atom_smaller (Group u) w i (inr p) h =
        let e = p.1 in
        name_smaller p.0 p.2.0 u p.2.1 i p.2.2 p.2.3 p.2.4 (subst (λ (x : Atom). Uses ds (atom_items x) i) e h)

  used_smaller : (i j : ℕ) (d : Definition) (u : Tree) → slice_get ds i ≡ Some d → IsTreeOf ds d.text u → UsesDefinition ds i j → Smaller ds j (tree_size u)
  used_smaller i j d u at t link =
      let same : link.definition ≡ d = some_same link.definition d (sym link.is ∙ at) in
      let s = t.is_spelled in
      let items = one_reading d.text link.items s.items (subst (λ (x : Definition). Reads x.text link.items) same link.read) s.read in
      tree_smaller u t.spelled j t.put_in (subst (λ (xs : List Item). Uses ds xs j) (ap items_of items ∙ s.derived) link.uses)

  reached_smaller : (i j : ℕ) → Reaches ds i j → (d : Definition) (u : Tree) → slice_get ds i ≡ Some d → IsTreeOf ds d.text u → Smaller ds j (tree_size u)
  reached_smaller _ _ (directly i j link) d u at t = used_smaller i j d u at t link
  reached_smaller _ _ (through i k j link more) d u at t =
      let s = used_smaller i k d u at t link in
      within ds j (tree_size s.tree) (tree_size u) (let l = s.less in omega arith) (reached_smaller k j more s.definition s.tree s.is s.is_tree)

  pub no_tree_in_cycle : (i : ℕ) (d : Definition) (u : Tree) → slice_get ds i ≡ Some d → IsTreeOf ds d.text u → Reaches ds i i → ⊥
  no_tree_in_cycle i d u at t r =
      let s = reached_smaller i i r d u at t in
      let same : s.definition ≡ d = some_same s.definition d (sym s.is ∙ at) in
      let one = one_tree_of ds d.text s.tree u (subst (λ (x : Definition). IsTreeOf ds x.text s.tree) same s.is_tree) t in
      omega (arith, s.less, ap tree_size one)
