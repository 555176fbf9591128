-- Which definitions items use, and which their operations put in.
use Rattle.std.proofs.Common.{◌≡◌, ◌⊎◌, ℕ, ◌<◌, List, [], ◌∷◌, ◌++◌, length, map, refl, sym, ap, ◌∙◌, inl, inr, arith}
use Rattle.std.specs.Prelude.{Option, Some, None, unwrap_or}
use Rattle.cs_pattern_parts.specs.declared.items.item.Repetition.{Repetition}
use Rattle.cs_pattern_parts.specs.Items.Items.{Item, closing, bar, repetition}
use Rattle.cs_pattern.specs.Operations.Definitions.{Definition, index_of}
use Rattle.cs_pattern.specs.Operations.Grammar.{Tree, LastBranch, Or, Branch, LastPiece, Beside, Piece, Repeated, Atom, Bytes, Quote, Name, Group, tree_items, branch_items, piece_items, atom_items}
use Rattle.cs_pattern.specs.Text.Needed.{Substitutes}
use Rattle.cs_pattern.specs.Operations.Operations.{Op, substitute, repeat, group, join, either, number_of, branch_count, piece_count, tree_ops, branches_ops, pieces_ops, piece_ops, atom_ops}
use Rattle.cs_pattern.specs.Text.Substitution.{Defines}
use Rattle.cs_pattern.specs.Text.Uses.{Uses}

pub uses_left : (ds : List Definition) (xs ys : List Item) (i : ℕ) → Uses ds xs i → Uses ds (xs ++ ys) i
uses_left ds [] ys i h = absurd h
uses_left ds (x ∷ xs) ys i (inl h) = inl h
uses_left ds (x ∷ xs) ys i (inr h) = inr (uses_left ds xs ys i h)

pub uses_right : (ds : List Definition) (xs ys : List Item) (i : ℕ) → Uses ds ys i → Uses ds (xs ++ ys) i
uses_right ds [] ys i h = h
uses_right ds (x ∷ xs) ys i h = inr (uses_right ds xs ys i h)

pub number_is : (ds : List Definition) (name : List ℕ) (d : Definition) (def : Defines ds name d) → number_of ds name ≡ def.index
number_is ds name d def = ap (λ o. unwrap_or o (length ds)) def.found

pub uses_cases : (ds : List Definition) (xs ys : List Item) (i : ℕ) → Uses ds (xs ++ ys) i → Uses ds xs i ⊎ Uses ds ys i
uses_cases ds [] ys i h = inr h
uses_cases ds (x ∷ xs) ys i (inl h) = inl (inl h)
uses_cases ds (x ∷ xs) ys i (inr h) = elim (uses_cases ds xs ys i h) [ inl k ↦ inl (inr k) | inr k ↦ inr k ]

pub no_repetition : (ds : List Definition) (rs : List Repetition) (i : ℕ) → Uses ds (map repetition rs) i → ⊥
no_repetition ds [] i h = h
no_repetition ds (r ∷ rs) i (inl h) = cc
no_repetition ds (r ∷ rs) i (inr h) = no_repetition ds rs i h

puts_left : (xs ys : List Op) (i : ℕ) → Substitutes xs i → Substitutes (xs ++ ys) i
puts_left [] ys i h = absurd h
puts_left (x ∷ xs) ys i (inl h) = inl h
puts_left (x ∷ xs) ys i (inr h) = inr (puts_left xs ys i h)

puts_right : (xs ys : List Op) (i : ℕ) → Substitutes ys i → Substitutes (xs ++ ys) i
puts_right [] ys i h = h
puts_right (x ∷ xs) ys i h = inr (puts_right xs ys i h)

puts_cases : (xs ys : List Op) (i : ℕ) → Substitutes (xs ++ ys) i → Substitutes xs i ⊎ Substitutes ys i
puts_cases [] ys i h = inr h
puts_cases (x ∷ xs) ys i (inl h) = inl (inl h)
puts_cases (x ∷ xs) ys i (inr h) = elim (puts_cases xs ys i h) [ inl k ↦ inl (inr k) | inr k ↦ inr k ]

puts_no_repeat : (rs : List Repetition) (i : ℕ) → Substitutes (map repeat rs) i → ⊥
puts_no_repeat [] i h = h
puts_no_repeat (r ∷ rs) i (inl h) = cc
puts_no_repeat (r ∷ rs) i (inr h) = puts_no_repeat rs i h

named_number : (ds : List Definition) (name : List ℕ) (i : ℕ) → index_of name ds ≡ Some i → number_of ds name ≡ i
named_number ds name i e = ap (λ o. unwrap_or o (length ds)) e

number_named : (ds : List Definition) (name : List ℕ) (i : ℕ) → i < length ds → number_of ds name ≡ i → index_of name ds ≡ Some i
number_named ds name i lt e = by_case (index_of name ds) refl
  where
    by_case : (o : Option ℕ) → index_of name ds ≡ o → index_of name ds ≡ Some i
    by_case None f = let g : length ds ≡ i = sym (ap (λ o. unwrap_or o (length ds)) f) ∙ e in absurd (omega arith)
    by_case (Some j) f = let g : j ≡ i = sym (ap (λ o. unwrap_or o (length ds)) f) ∙ e in f ∙ ap Some g

-- what a tree's items use, its operations put in
module _ (ds : List Definition) where
  mutual
    branches_put : (t : Tree) (i : ℕ) → Uses ds (tree_items t) i → Substitutes (branches_ops (number_of ds) t) i
    branches_put (LastBranch b) i h = puts_left (pieces_ops (number_of ds) b) (join (piece_count b) ∷ []) i (pieces_put b i h)
    branches_put (Or b t) i h =
        elim (uses_cases ds (branch_items b) (bar ∷ tree_items t) i h) [
          | inl k ↦ puts_left (pieces_ops (number_of ds) b) (join (piece_count b) ∷ branches_ops (number_of ds) t) i (pieces_put b i k)
          | inr k ↦ elim k [
            | inl e ↦ absurd cc
            | inr m ↦ puts_right (pieces_ops (number_of ds) b) (join (piece_count b) ∷ branches_ops (number_of ds) t) i (inr (branches_put t i m))
          ]
        ]

    pieces_put : (b : Branch) (i : ℕ) → Uses ds (branch_items b) i → Substitutes (pieces_ops (number_of ds) b) i
    pieces_put (LastPiece p) i h = piece_puts p i h
    pieces_put (Beside p b) i h =
        elim (uses_cases ds (piece_items p) (branch_items b) i h) [
          | inl k ↦ puts_left (piece_ops (number_of ds) p) (pieces_ops (number_of ds) b) i (piece_puts p i k)
          | inr k ↦ puts_right (piece_ops (number_of ds) p) (pieces_ops (number_of ds) b) i (pieces_put b i k)
        ]

    piece_puts : (p : Piece) (i : ℕ) → Uses ds (piece_items p) i → Substitutes (piece_ops (number_of ds) p) i
    piece_puts (Repeated a rs) i h =
        elim (uses_cases ds (atom_items a) (map repetition rs) i h) [
          | inl k ↦ puts_left (atom_ops (number_of ds) a) (map repeat rs) i (atom_puts a i k)
          | inr k ↦ absurd (no_repetition ds rs i k)
        ]

    atom_puts : (a : Atom) (i : ℕ) → Uses ds (atom_items a) i → Substitutes (atom_ops (number_of ds) a) i
    atom_puts (Bytes set) i (inl h) = absurd cc
    atom_puts (Bytes set) i (inr h) = absurd h
    atom_puts (Quote bytes) i (inl h) = absurd cc
    atom_puts (Quote bytes) i (inr h) = absurd h
    atom_puts (Name name) i (inl h) = inl (ap substitute (named_number ds name i h))
    atom_puts (Name name) i (inr h) = absurd h
    atom_puts (Group t) i (inl h) = absurd cc
    atom_puts (Group t) i (inr h) =
        elim (uses_cases ds (tree_items t) (closing ∷ []) i h) [
          | inl k ↦ puts_left (branches_ops (number_of ds) t) (either (branch_count t) ∷ group ∷ []) i (branches_put t i k)
          | inr k ↦ elim k [ inl e ↦ absurd cc | inr m ↦ absurd m ]
        ]

  pub tree_puts : (t : Tree) (i : ℕ) → Uses ds (tree_items t) i → Substitutes (tree_ops (number_of ds) t) i
  tree_puts t i h = puts_left (branches_ops (number_of ds) t) (either (branch_count t) ∷ []) i (branches_put t i h)

  -- and the other way round, as far as definitions go
  mutual
    branches_use : (t : Tree) (i : ℕ) → i < length ds → Substitutes (branches_ops (number_of ds) t) i → Uses ds (tree_items t) i
    branches_use (LastBranch b) i lt h =
        elim (puts_cases (pieces_ops (number_of ds) b) (join (piece_count b) ∷ []) i h) [
          | inl k ↦ pieces_use b i lt k
          | inr k ↦ elim k [ inl e ↦ absurd cc | inr m ↦ absurd m ]
        ]
    branches_use (Or b t) i lt h =
        elim (puts_cases (pieces_ops (number_of ds) b) (join (piece_count b) ∷ branches_ops (number_of ds) t) i h) [
          | inl k ↦ uses_left ds (branch_items b) (bar ∷ tree_items t) i (pieces_use b i lt k)
          | inr k ↦ elim k [
            | inl e ↦ absurd cc
            | inr m ↦ uses_right ds (branch_items b) (bar ∷ tree_items t) i (inr (branches_use t i lt m))
          ]
        ]

    pieces_use : (b : Branch) (i : ℕ) → i < length ds → Substitutes (pieces_ops (number_of ds) b) i → Uses ds (branch_items b) i
    pieces_use (LastPiece p) i lt h = piece_uses p i lt h
    pieces_use (Beside p b) i lt h =
        elim (puts_cases (piece_ops (number_of ds) p) (pieces_ops (number_of ds) b) i h) [
          | inl k ↦ uses_left ds (piece_items p) (branch_items b) i (piece_uses p i lt k)
          | inr k ↦ uses_right ds (piece_items p) (branch_items b) i (pieces_use b i lt k)
        ]

    piece_uses : (p : Piece) (i : ℕ) → i < length ds → Substitutes (piece_ops (number_of ds) p) i → Uses ds (piece_items p) i
    piece_uses (Repeated a rs) i lt h =
        elim (puts_cases (atom_ops (number_of ds) a) (map repeat rs) i h) [
          | inl k ↦ uses_left ds (atom_items a) (map repetition rs) i (atom_uses a i lt k)
          | inr k ↦ absurd (puts_no_repeat rs i k)
        ]

    atom_uses : (a : Atom) (i : ℕ) → i < length ds → Substitutes (atom_ops (number_of ds) a) i → Uses ds (atom_items a) i
    atom_uses (Bytes set) i lt (inl h) = absurd cc
    atom_uses (Bytes set) i lt (inr h) = absurd h
    atom_uses (Quote bytes) i lt (inl h) = absurd cc
    atom_uses (Quote bytes) i lt (inr h) = absurd h
    atom_uses (Name name) i lt (inl h) = inl (number_named ds name i lt (let e : number_of ds name ≡ i = cc h in e))
    atom_uses (Name name) i lt (inr (inl h)) = absurd cc
    atom_uses (Name name) i lt (inr (inr h)) = absurd h
    atom_uses (Group t) i lt h =
        elim (puts_cases (branches_ops (number_of ds) t) (either (branch_count t) ∷ group ∷ []) i h) [
          | inl k ↦ inr (uses_left ds (tree_items t) (closing ∷ []) i (branches_use t i lt k))
          | inr k ↦ elim k [
            | inl e ↦ absurd cc
            | inr m ↦ elim m [ inl e ↦ absurd cc | inr n ↦ absurd n ]
          ]
        ]

  pub tree_uses : (t : Tree) (i : ℕ) → i < length ds → Substitutes (tree_ops (number_of ds) t) i → Uses ds (tree_items t) i
  tree_uses t i lt h =
      elim (puts_cases (branches_ops (number_of ds) t) (either (branch_count t) ∷ []) i h) [
        | inl k ↦ branches_use t i lt k
        | inr k ↦ elim k [ inl e ↦ absurd cc | inr m ↦ absurd m ]
      ]
