-- Items have one derivation.
use Rattle.std.proofs.Common.{◌≡◌, List, [], ◌∷◌, ◌++◌, map, refl, sym, ap, ◌∙◌, subst, append_assoc}
use Rattle.std.proofs.lemmas.List.{append-nil}
use Rattle.cs_pattern_parts.specs.declared.items.item.Repetition.{Repetition}
use Rattle.cs_pattern_parts.specs.Items.Items.{Item, class, quoted, named, opening, closing, bar, repetition}
use Rattle.cs_pattern.specs.Operations.Grammar.{Tree, LastBranch, Or, Branch, LastPiece, Beside, Piece, Repeated, Atom, Bytes, Quote, Name, Group, tree_items, branch_items, piece_items, atom_items}

-- no repetition stands first
abbrev EndsPiece : List Item → Type 0
EndsPiece [] = Unit {0}
EndsPiece (repetition r ∷ xs) = ⊥
EndsPiece (class s ∷ xs) = Unit {0}
EndsPiece (quoted s ∷ xs) = Unit {0}
EndsPiece (named s ∷ xs) = Unit {0}
EndsPiece (opening ∷ xs) = Unit {0}
EndsPiece (closing ∷ xs) = Unit {0}
EndsPiece (bar ∷ xs) = Unit {0}

-- nothing, a `|` or a `)` stands first
abbrev EndsBranch : List Item → Type 0
EndsBranch [] = Unit {0}
EndsBranch (bar ∷ xs) = Unit {0}
EndsBranch (closing ∷ xs) = Unit {0}
EndsBranch (repetition r ∷ xs) = ⊥
EndsBranch (class s ∷ xs) = ⊥
EndsBranch (quoted s ∷ xs) = ⊥
EndsBranch (named s ∷ xs) = ⊥
EndsBranch (opening ∷ xs) = ⊥

-- nothing or a `)` stands first
abbrev EndsTree : List Item → Type 0
EndsTree [] = Unit {0}
EndsTree (closing ∷ xs) = Unit {0}
EndsTree (bar ∷ xs) = ⊥
EndsTree (repetition r ∷ xs) = ⊥
EndsTree (class s ∷ xs) = ⊥
EndsTree (quoted s ∷ xs) = ⊥
EndsTree (named s ∷ xs) = ⊥
EndsTree (opening ∷ xs) = ⊥

branch_ends_piece : (xs : List Item) → EndsBranch xs → EndsPiece xs
branch_ends_piece [] h = tt
branch_ends_piece (bar ∷ xs) h = tt
branch_ends_piece (closing ∷ xs) h = tt
branch_ends_piece (repetition r ∷ xs) h = absurd h
branch_ends_piece (class s ∷ xs) h = absurd h
branch_ends_piece (quoted s ∷ xs) h = absurd h
branch_ends_piece (named s ∷ xs) h = absurd h
branch_ends_piece (opening ∷ xs) h = absurd h

tree_ends_branch : (xs : List Item) → EndsTree xs → EndsBranch xs
tree_ends_branch [] h = tt
tree_ends_branch (closing ∷ xs) h = tt
tree_ends_branch (bar ∷ xs) h = absurd h
tree_ends_branch (repetition r ∷ xs) h = absurd h
tree_ends_branch (class s ∷ xs) h = absurd h
tree_ends_branch (quoted s ∷ xs) h = absurd h
tree_ends_branch (named s ∷ xs) h = absurd h
tree_ends_branch (opening ∷ xs) h = absurd h

-- a branch begins with an atom
begins : (b : Branch) (a : List Item) → EndsPiece (branch_items b ++ a)
begins (LastPiece (Repeated (Bytes s) rs)) a = tt
begins (LastPiece (Repeated (Quote s) rs)) a = tt
begins (LastPiece (Repeated (Name s) rs)) a = tt
begins (LastPiece (Repeated (Group t) rs)) a = tt
begins (Beside (Repeated (Bytes s) rs) b) a = tt
begins (Beside (Repeated (Quote s) rs) b) a = tt
begins (Beside (Repeated (Name s) rs) b) a = tt
begins (Beside (Repeated (Group t) rs) b) a = tt

no_end : (b : Branch) (a : List Item) → EndsBranch (branch_items b ++ a) → ⊥
no_end (LastPiece (Repeated (Bytes s) rs)) a h = h
no_end (LastPiece (Repeated (Quote s) rs)) a h = h
no_end (LastPiece (Repeated (Name s) rs)) a h = h
no_end (LastPiece (Repeated (Group t) rs)) a h = h
no_end (Beside (Repeated (Bytes s) rs) b) a h = h
no_end (Beside (Repeated (Quote s) rs) b) a h = h
no_end (Beside (Repeated (Name s) rs) b) a h = h
no_end (Beside (Repeated (Group t) rs) b) a h = h

same_repetitions : (rs ss : List Repetition) (a b : List Item) → EndsPiece a → EndsPiece b → map repetition rs ++ a ≡ map repetition ss ++ b → (rs ≡ ss) × (a ≡ b)
same_repetitions [] [] a b p q e = (refl, e)
same_repetitions [] (s ∷ ss) a b p q e = absurd (subst EndsPiece e p)
same_repetitions (r ∷ rs) [] a b p q e = absurd (subst EndsPiece (sym e) q)
same_repetitions (r ∷ rs) (s ∷ ss) a b p q e =
    let head : r ≡ s = cc in
    let rest : map repetition rs ++ a ≡ map repetition ss ++ b = cc in
    let more = same_repetitions rs ss a b p q rest in
    (let t = more.0 in cc, more.1)

mutual
  one_tree : (t u : Tree) (a b : List Item) → EndsTree a → EndsTree b → tree_items t ++ a ≡ tree_items u ++ b → (t ≡ u) × (a ≡ b)
  one_tree (LastBranch x) (LastBranch y) a b p q e =
      let same = one_branch x y a b (tree_ends_branch a p) (tree_ends_branch b q) e in
      (ap LastBranch same.0, same.1)
  one_tree (LastBranch x) (Or y u) a b p q e =
      let same = one_branch x y a (bar ∷ (tree_items u ++ b)) (tree_ends_branch a p) tt (e ∙ append_assoc (branch_items y) (bar ∷ tree_items u) b) in
      absurd (subst EndsTree same.1 p)
  one_tree (Or x t) (LastBranch y) a b p q e =
      let same = one_branch x y (bar ∷ (tree_items t ++ a)) b tt (tree_ends_branch b q) (sym (append_assoc (branch_items x) (bar ∷ tree_items t) a) ∙ e) in
      absurd (subst EndsTree (sym same.1) q)
  one_tree (Or x t) (Or y u) a b p q e =
      let same = one_branch x y (bar ∷ (tree_items t ++ a)) (bar ∷ (tree_items u ++ b)) tt tt (sym (append_assoc (branch_items x) (bar ∷ tree_items t) a) ∙ e ∙ append_assoc (branch_items y) (bar ∷ tree_items u) b) in
      let f : bar ∷ (tree_items t ++ a) ≡ bar ∷ (tree_items u ++ b) = same.1 in
      let rest : tree_items t ++ a ≡ tree_items u ++ b = cc f in
      let more = one_tree t u a b p q rest in
      (let g = same.0 in let h = more.0 in cc (g, h), more.1)

  one_branch : (x y : Branch) (a b : List Item) → EndsBranch a → EndsBranch b → branch_items x ++ a ≡ branch_items y ++ b → (x ≡ y) × (a ≡ b)
  one_branch (LastPiece p) (LastPiece q) a b f g e =
      let same = one_piece p q a b (branch_ends_piece a f) (branch_ends_piece b g) e in
      (ap LastPiece same.0, same.1)
  one_branch (LastPiece p) (Beside q y) a b f g e =
      let same = one_piece p q a (branch_items y ++ b) (branch_ends_piece a f) (begins y b) (e ∙ append_assoc (piece_items q) (branch_items y) b) in
      absurd (no_end y b (subst EndsBranch same.1 f))
  one_branch (Beside p x) (LastPiece q) a b f g e =
      let same = one_piece p q (branch_items x ++ a) b (begins x a) (branch_ends_piece b g) (sym (append_assoc (piece_items p) (branch_items x) a) ∙ e) in
      absurd (no_end x a (subst EndsBranch (sym same.1) g))
  one_branch (Beside p x) (Beside q y) a b f g e =
      let same = one_piece p q (branch_items x ++ a) (branch_items y ++ b) (begins x a) (begins y b) (sym (append_assoc (piece_items p) (branch_items x) a) ∙ e ∙ append_assoc (piece_items q) (branch_items y) b) in
      let more = one_branch x y a b f g same.1 in
      (let h = same.0 in let k = more.0 in cc (h, k), more.1)

  one_piece : (p q : Piece) (a b : List Item) → EndsPiece a → EndsPiece b → piece_items p ++ a ≡ piece_items q ++ b → (p ≡ q) × (a ≡ b)
  one_piece (Repeated x rs) (Repeated y ss) a b f g e =
      let same = one_atom x y (map repetition rs ++ a) (map repetition ss ++ b) (sym (append_assoc (atom_items x) (map repetition rs) a) ∙ e ∙ append_assoc (atom_items y) (map repetition ss) b) in
      let more = same_repetitions rs ss a b f g same.1 in
      (let h = same.0 in let k = more.0 in cc (h, k), more.1)

  one_atom : (x y : Atom) (a b : List Item) → atom_items x ++ a ≡ atom_items y ++ b → (x ≡ y) × (a ≡ b)
  one_atom (Bytes s) (Bytes t) a b e = (let f : s ≡ t = cc in ap Bytes f, cc)
  one_atom (Bytes s) (Quote t) a b e = absurd cc
  one_atom (Bytes s) (Name t) a b e = absurd cc
  one_atom (Bytes s) (Group u) a b e = absurd cc
  one_atom (Quote s) (Bytes t) a b e = absurd cc
  one_atom (Quote s) (Quote t) a b e = (let f : s ≡ t = cc in ap Quote f, cc)
  one_atom (Quote s) (Name t) a b e = absurd cc
  one_atom (Quote s) (Group u) a b e = absurd cc
  one_atom (Name s) (Bytes t) a b e = absurd cc
  one_atom (Name s) (Quote t) a b e = absurd cc
  one_atom (Name s) (Name t) a b e = (let f : s ≡ t = cc in ap Name f, cc)
  one_atom (Name s) (Group u) a b e = absurd cc
  one_atom (Group t) (Bytes s) a b e = absurd cc
  one_atom (Group t) (Quote s) a b e = absurd cc
  one_atom (Group t) (Name s) a b e = absurd cc
  one_atom (Group t) (Group u) a b e =
      let f : (tree_items t ++ closing ∷ []) ++ a ≡ (tree_items u ++ closing ∷ []) ++ b = cc in
      let g = sym (append_assoc (tree_items t) (closing ∷ []) a) ∙ f ∙ append_assoc (tree_items u) (closing ∷ []) b in
      let same = one_tree t u (closing ∷ a) (closing ∷ b) tt tt g in
      let h : closing ∷ a ≡ closing ∷ b = same.1 in
      (ap Group same.0, cc h)

pub one_derivation : (xs : List Item) (t u : Tree) → xs ≡ tree_items t → xs ≡ tree_items u → t ≡ u
one_derivation xs t u e f = (one_tree t u [] [] tt tt (append-nil (tree_items t) ∙ sym e ∙ f ∙ sym (append-nil (tree_items u)))).0
