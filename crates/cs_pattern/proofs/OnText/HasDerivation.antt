-- Items that the table takes have a derivation.
use Rattle.std.proofs.Common.{◌≡◌, ℕ, zero, suc, ◌+◌, ◌≤◌, Bool, true, false, List, [], ◌∷◌, ◌++◌, length, map, refl, sym, ap, ◌∙◌, subst, append_assoc, arith, length-append, add-one}
use Rattle.std.specs.Prelude.{Some}
use Rattle.std.proofs.lemmas.List.{append-nil}
use Rattle.std.proofs.lemmas.Bool.{false≢true}
use Rattle.cs_pattern_parts.specs.declared.items.item.Repetition.{Repetition}
use Rattle.cs_pattern.specs.declared.text.place.PatternPlace.{PatternPlace}
use Rattle.cs_pattern_parts.specs.Items.Items.{Item, class, quoted, named, opening, closing, bar, repetition, Placed, items_of}
use Rattle.cs_pattern.specs.Text.Table.{place, beginning, next_place, MayEnd, ReadsTo, Reads}
use Rattle.cs_pattern.specs.Operations.Grammar.{Tree, LastBranch, Or, LastPiece, Beside, Piece, Repeated, Atom, Bytes, Quote, Name, Group, tree_items, branch_items, piece_items, atom_items}

-- from the place these items lead to the end
abbrev GoesOn : Bool → ℕ → List Item → Type 0
GoesOn b k [] = place b k ≡ place true 0
GoesOn b k (x ∷ xs) = (next : PatternPlace) × (next_place (place b k) x ≡ Some next) × GoesOn next.behind_atom next.groups xs

leads_from : (bytes : List ℕ) (at : ℕ) (p : PatternPlace) (xs : List Placed) (to : ℕ) (last : PatternPlace) → ReadsTo bytes at p xs to last → MayEnd last → GoesOn p.behind_atom p.groups (items_of xs)
leads_from bytes at p [] to last r e = r.1 ∙ e
leads_from bytes at p (x ∷ xs) to last r e = (r.1, r.4, leads_from bytes (at + r.0) r.1 xs to last r.5 e)

-- what stands behind an atom, up to the end of its group
data Tail : Type 0 where
  done : List Repetition → Tail
  barred : List Repetition → Tree → Tail
  beside : List Repetition → Tree → Tail

abbrev tail_items : Tail → List Item
tail_items (done rs) = map repetition rs
tail_items (barred rs t) = map repetition rs ++ bar ∷ tree_items t
tail_items (beside rs t) = map repetition rs ++ tree_items t

abbrev more_repeated : Repetition → Tail → Tail
more_repeated r (done rs) = done (r ∷ rs)
more_repeated r (barred rs t) = barred (r ∷ rs) t
more_repeated r (beside rs t) = beside (r ∷ rs) t

more_items : (r : Repetition) (t : Tail) → tail_items (more_repeated r t) ≡ repetition r ∷ tail_items t
more_items r (done rs) = refl
more_items r (barred rs t) = refl
more_items r (beside rs t) = refl

-- a piece before the first branch's pieces
abbrev with_piece : Piece → Tree → Tree
with_piece p (LastBranch b) = LastBranch (Beside p b)
with_piece p (Or b t) = Or (Beside p b) t

with_piece_items : (p : Piece) (t : Tree) → tree_items (with_piece p t) ≡ piece_items p ++ tree_items t
with_piece_items p (LastBranch b) = refl
with_piece_items p (Or b t) = append_assoc (piece_items p) (branch_items b) (bar ∷ tree_items t)

abbrev tree_of : Atom → Tail → Tree
tree_of a (done rs) = LastBranch (LastPiece (Repeated a rs))
tree_of a (barred rs t) = Or (LastPiece (Repeated a rs)) t
tree_of a (beside rs t) = with_piece (Repeated a rs) t

tree_of_items : (a : Atom) (t : Tail) → tree_items (tree_of a t) ≡ atom_items a ++ tail_items t
tree_of_items a (done rs) = refl
tree_of_items a (barred rs t) = append_assoc (atom_items a) (map repetition rs) (bar ∷ tree_items t)
tree_of_items a (beside rs t) = with_piece_items (Repeated a rs) t ∙ append_assoc (atom_items a) (map repetition rs) (tree_items t)

-- what is left behind a group's pattern: nothing, or its `)` and what leads on
abbrev After : ℕ → List Item → Type 0
After zero ys = ys ≡ []
After (suc k) ys = (zs : List Item) × (ys ≡ closing ∷ zs) × GoesOn true k zs

record HasTree (k : ℕ) (xs : List Item) : Type 0 where
  tree : Tree
  rest : List Item
  is : xs ≡ tree_items tree ++ rest
  after : After k rest

record HasTail (k : ℕ) (xs : List Item) : Type 0 where
  tail : Tail
  rest : List Item
  is : xs ≡ tail_items tail ++ rest
  after : After k rest

-- an atom before its tail
atom_first : (k : ℕ) (a : Atom) (ys : List Item) → HasTail k ys → HasTree k (atom_items a ++ ys)
atom_first k a ys h = record {
  tree = tree_of a h.tail;
  rest = h.rest;
  is = ap (λ (zs : List Item). atom_items a ++ zs) h.is ∙ sym (append_assoc (atom_items a) (tail_items h.tail) h.rest) ∙ ap (λ (zs : List Item). zs ++ h.rest) (sym (tree_of_items a h.tail));
  after = h.after;
}

tree_beside : (k : ℕ) (xs : List Item) → HasTree k xs → HasTail k xs
tree_beside k xs h = record { tail = beside [] h.tree; rest = h.rest; is = h.is; after = h.after }

led : (b c : Bool) (k j : ℕ) (xs : List Item) (next : PatternPlace) → Some (place c j) ≡ Some next → GoesOn next.behind_atom next.groups xs → GoesOn c j xs
led b c k j xs next e l = let f : next ≡ place c j = cc in subst (λ (q : PatternPlace). GoesOn q.behind_atom q.groups xs) f l

not_behind : (k : ℕ) → place false k ≡ place true 0 → ⊥
not_behind k e = false≢true (ap (λ (q : PatternPlace). q.behind_atom) e)

closed_group : (t : Tree) (zs ys : List Item) → ys ≡ closing ∷ zs → opening ∷ (tree_items t ++ ys) ≡ atom_items (Group t) ++ zs
closed_group t zs ys e = ap (λ (w : List Item). opening ∷ (tree_items t ++ w)) e ∙ ap (λ (w : List Item). opening ∷ w) (sym (append_assoc (tree_items t) (closing ∷ []) zs))

group_first : (k : ℕ) (xs : List Item) (h : HasTree (suc k) xs) → HasTail k h.after.0 → HasTree k (opening ∷ xs)
group_first k xs h t =
    let e : opening ∷ xs ≡ atom_items (Group h.tree) ++ h.after.0 = ap (λ (w : List Item). opening ∷ w) h.is ∙ closed_group h.tree h.after.0 h.rest h.after.1 in
    subst (HasTree k) (sym e) (atom_first k (Group h.tree) h.after.0 t)

shorter : (n k : ℕ) (xs : List Item) (h : HasTree (suc k) xs) → length xs ≤ n → length h.after.0 ≤ n
shorter n k xs h le = omega (arith, ap length h.is, ap length h.after.1, length-append (tree_items h.tree) h.rest)

opened : (b : Bool) (k : ℕ) (xs : List Item) (next : PatternPlace) → Some (place false (k + 1)) ≡ Some next → GoesOn next.behind_atom next.groups xs → GoesOn false (suc k) xs
opened b k xs next e l = subst (λ m. GoesOn false m xs) (add-one k) (led b false k (k + 1) xs next e l)

mutual
  -- behind an atom
  tail_at : (n k : ℕ) (xs : List Item) → length xs ≤ n → GoesOn true k xs → HasTail k xs
  tail_at n zero [] le l = record { tail = done []; rest = []; is = refl; after = refl }
  tail_at n (suc k) [] le l = let f : suc k ≡ 0 = ap (λ (q : PatternPlace). q.groups) l in absurd (omega arith)
  tail_at zero k (x ∷ xs) le l = absurd (omega arith)
  tail_at (suc n) k (repetition r ∷ xs) le l =
      let h = tail_at n k xs (omega arith) (led true true k k xs l.0 l.1 l.2) in
      record { tail = more_repeated r h.tail; rest = h.rest; is = ap (λ (ys : List Item). repetition r ∷ ys) h.is ∙ ap (λ (ys : List Item). ys ++ h.rest) (sym (more_items r h.tail)); after = h.after }
  tail_at (suc n) k (bar ∷ xs) le l =
      let h = tree_at n k xs (omega arith) (led true false k k xs l.0 l.1 l.2) in
      record { tail = barred [] h.tree; rest = h.rest; is = ap (λ (ys : List Item). bar ∷ ys) h.is; after = h.after }
  tail_at (suc n) zero (closing ∷ xs) le l = let e = l.1 in absurd cc
  tail_at (suc n) (suc k) (closing ∷ xs) le l = record { tail = done []; rest = closing ∷ xs; is = refl; after = (xs, refl, led true true (suc k) k xs l.0 l.1 l.2) }
  tail_at (suc n) k (class s ∷ xs) le l = tree_beside k _ (atom_first k (Bytes s) xs (tail_at n k xs (omega arith) (led true true k k xs l.0 l.1 l.2)))
  tail_at (suc n) k (quoted s ∷ xs) le l = tree_beside k _ (atom_first k (Quote s) xs (tail_at n k xs (omega arith) (led true true k k xs l.0 l.1 l.2)))
  tail_at (suc n) k (named s ∷ xs) le l = tree_beside k _ (atom_first k (Name s) xs (tail_at n k xs (omega arith) (led true true k k xs l.0 l.1 l.2)))
  tail_at (suc n) k (opening ∷ xs) le l =
      let h = tree_at n (suc k) xs (omega arith) (opened true k xs l.0 l.1 l.2) in
      tree_beside k _ (group_first k xs h (tail_at n k h.after.0 (shorter n k xs h (omega arith)) h.after.2))

  -- where an atom must come
  tree_at : (n k : ℕ) (xs : List Item) → length xs ≤ n → GoesOn false k xs → HasTree k xs
  tree_at n k [] le l = absurd (not_behind k l)
  tree_at zero k (x ∷ xs) le l = absurd (omega arith)
  tree_at (suc n) k (repetition r ∷ xs) le l = let e = l.1 in absurd cc
  tree_at (suc n) k (bar ∷ xs) le l = let e = l.1 in absurd cc
  tree_at (suc n) k (closing ∷ xs) le l = let e = l.1 in absurd cc
  tree_at (suc n) k (class s ∷ xs) le l = atom_first k (Bytes s) xs (tail_at n k xs (omega arith) (led false true k k xs l.0 l.1 l.2))
  tree_at (suc n) k (quoted s ∷ xs) le l = atom_first k (Quote s) xs (tail_at n k xs (omega arith) (led false true k k xs l.0 l.1 l.2))
  tree_at (suc n) k (named s ∷ xs) le l = atom_first k (Name s) xs (tail_at n k xs (omega arith) (led false true k k xs l.0 l.1 l.2))
  tree_at (suc n) k (opening ∷ xs) le l =
      let h = tree_at n (suc k) xs (omega arith) (opened false k xs l.0 l.1 l.2) in
      group_first k xs h (tail_at n k h.after.0 (shorter n k xs h (omega arith)) h.after.2)

-- what is read has a derivation
pub has_derivation : (bytes : List ℕ) (xs : List Placed) → Reads bytes xs → (t : Tree) × (items_of xs ≡ tree_items t)
has_derivation bytes xs r =
    let h = tree_at (length (items_of xs)) 0 (items_of xs) (omega arith) (leads_from bytes 0 beginning xs (length bytes) r.last r.read r.ends) in
    (h.tree, h.is ∙ ap (λ (ys : List Item). tree_items h.tree ++ ys) h.after ∙ append-nil (tree_items h.tree))
