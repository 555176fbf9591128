-- The operations of a tree make its value.
use Rattle.std.proofs.Common.{◌≡◌, ℕ, ◌+◌, ◌-◌, ◌<◌, get_or, List, [], ◌∷◌, ◌++◌, length, map, take, drop, refl, sym, ap, ◌∙◌, append_assoc, arith, length-append}
use Rattle.std.specs.Prelude.{slice_index_or}
use Rattle.std.proofs.lemmas.List.{take_more, map_push}
use Rattle.std.proofs.Math.Seq.{take-append_seam, drop-append_seam, get_or-append_seam}
use Rattle.cs_pattern_parts.specs.declared.items.item.Repetition.{Repetition}
use Rattle.cs_pattern.specs.declared.operations.operations.Op as code
use Rattle.cs_pattern.specs.Operations.Grammar.{Tree, LastBranch, Or, Branch, LastPiece, Beside, Piece, Repeated, Atom, Bytes, Quote, Name, Group}
use Rattle.cs_pattern.specs.Operations.Operations.{Op, op_of, ops_of, repeat, group, join, either, branch_count, piece_count, tree_ops, branches_ops, pieces_ops, piece_ops, atom_ops}
use Rattle.cs_pattern.specs.Operations.Evaluation.{Algebra, top, below, last, step, run, value_of}
use Rattle.cs_pattern.specs.Operations.Values.{repeated_value, branch_values, piece_values, piece_value, atom_value, tree_value}

module _ {V : Type 0} (a : Algebra V) where
  pub run-append : (stack : List V) (xs ys : List Op) → run a stack (xs ++ ys) ≡ run a (run a stack xs) ys
  run-append stack [] ys = refl
  run-append stack (x ∷ xs) ys = run-append (step a stack x) xs ys

  -- one more operation
  pub run_more : (start s t : List V) (xs : List code.Op) (i : ℕ) (x : code.Op) → i < length xs → x ≡ get_or xs i x → s ≡ run a start (ops_of (take i xs)) → t ≡ step a s (op_of x) → t ≡ run a start (ops_of (take (i + 1) xs))
  run_more start s t xs i x lt e is after =
      after
      ∙ ap (λ (u : List V). step a u (op_of x)) is
      ∙ sym (run-append start (ops_of (take i xs)) (op_of x ∷ []))
      ∙ ap (run a start) (sym (ap ops_of (take_more xs i x lt ∙ ap (λ (y : code.Op). take i xs ++ y ∷ []) (sym e)) ∙ map_push op_of (take i xs) x))

  left : (stack vs : List V) (n : ℕ) → length vs ≡ n → length (stack ++ vs) - n ≡ length stack
  left stack vs n e = omega (arith, length-append stack vs, e)

  pub below_is : (stack vs : List V) (n : ℕ) → length vs ≡ n → below a n (stack ++ vs) ≡ stack
  below_is stack vs n e = ap (λ m. take m (stack ++ vs)) (left stack vs n e) ∙ take-append_seam stack vs

  pub last_is : (stack vs : List V) (n : ℕ) → length vs ≡ n → last a n (stack ++ vs) ≡ vs
  last_is stack vs n e = ap (λ m. drop m (stack ++ vs)) (left stack vs n e) ∙ drop-append_seam stack vs

  pub top_is : (stack : List V) (v : V) → top a (stack ++ v ∷ []) ≡ v
  top_is stack v = ap (λ m. slice_index_or (stack ++ v ∷ []) m a.nothing) (left stack (v ∷ []) 1 (omega arith)) ∙ get_or-append_seam stack v [] a.nothing

  pub on_top : (f : V → V) (stack : List V) (v : V) → below a 1 (stack ++ v ∷ []) ++ f (top a (stack ++ v ∷ [])) ∷ [] ≡ stack ++ f v ∷ []
  on_top f stack v =
      ap (λ (s : List V). s ++ f (top a (stack ++ v ∷ [])) ∷ []) (below_is stack (v ∷ []) 1 (omega arith))
      ∙ ap (λ w. stack ++ f w ∷ []) (top_is stack v)

  pub at_end : (f : List V → V) (stack vs : List V) (n : ℕ) → length vs ≡ n → below a n (stack ++ vs) ++ f (last a n (stack ++ vs)) ∷ [] ≡ stack ++ f vs ∷ []
  at_end f stack vs n e =
      ap (λ (s : List V). s ++ f (last a n (stack ++ vs)) ∷ []) (below_is stack vs n e)
      ∙ ap (λ (w : List V). stack ++ f w ∷ []) (last_is stack vs n e)

  run_repeats : (stack : List V) (v : V) (rs : List Repetition) → run a (stack ++ v ∷ []) (map repeat rs) ≡ stack ++ repeated_value a v rs ∷ []
  run_repeats stack v [] = refl
  run_repeats stack v (r ∷ rs) = ap (λ (s : List V). run a s (map repeat rs)) (on_top (a.repeat r) stack v) ∙ run_repeats stack (a.repeat r v) rs

module _ {V : Type 0} (a : Algebra V) (number : List ℕ → ℕ) where
  pub branch_values_length : (t : Tree) → length (branch_values a number t) ≡ branch_count t
  branch_values_length (LastBranch b) = refl
  branch_values_length (Or b t) = omega (arith, branch_values_length t)

  pub piece_values_length : (b : Branch) → length (piece_values a number b) ≡ piece_count b
  piece_values_length (LastPiece p) = refl
  piece_values_length (Beside p b) = omega (arith, piece_values_length b)

  mutual
    pub run_branches : (t : Tree) (stack : List V) → run a stack (branches_ops number t) ≡ stack ++ branch_values a number t
    run_branches (LastBranch b) stack =
        run-append a stack (pieces_ops number b) (join (piece_count b) ∷ [])
        ∙ ap (λ (s : List V). step a s (join (piece_count b))) (run_pieces b stack)
        ∙ at_end a a.join stack (piece_values a number b) (piece_count b) (piece_values_length b)
    run_branches (Or b t) stack =
        run-append a stack (pieces_ops number b) (join (piece_count b) ∷ branches_ops number t)
        ∙ ap (λ (s : List V). run a (step a s (join (piece_count b))) (branches_ops number t)) (run_pieces b stack)
        ∙ ap (λ (s : List V). run a s (branches_ops number t)) (at_end a a.join stack (piece_values a number b) (piece_count b) (piece_values_length b))
        ∙ run_branches t (stack ++ a.join (piece_values a number b) ∷ [])
        ∙ append_assoc stack (a.join (piece_values a number b) ∷ []) (branch_values a number t)

    pub run_pieces : (b : Branch) (stack : List V) → run a stack (pieces_ops number b) ≡ stack ++ piece_values a number b
    run_pieces (LastPiece p) stack = run_piece p stack
    run_pieces (Beside p b) stack =
        run-append a stack (piece_ops number p) (pieces_ops number b)
        ∙ ap (λ (s : List V). run a s (pieces_ops number b)) (run_piece p stack)
        ∙ run_pieces b (stack ++ piece_value a number p ∷ [])
        ∙ append_assoc stack (piece_value a number p ∷ []) (piece_values a number b)

    pub run_piece : (p : Piece) (stack : List V) → run a stack (piece_ops number p) ≡ stack ++ piece_value a number p ∷ []
    run_piece (Repeated x rs) stack =
        run-append a stack (atom_ops number x) (map repeat rs)
        ∙ ap (λ (s : List V). run a s (map repeat rs)) (run_atom x stack)
        ∙ run_repeats a stack (atom_value a number x) rs

    pub run_atom : (x : Atom) (stack : List V) → run a stack (atom_ops number x) ≡ stack ++ atom_value a number x ∷ []
    run_atom (Bytes set) stack = refl
    run_atom (Quote bytes) stack = refl
    run_atom (Name name) stack = on_top a a.group stack (a.substitute (number name))
    run_atom (Group t) stack =
        run-append a stack (branches_ops number t) (either (branch_count t) ∷ group ∷ [])
        ∙ ap (λ (s : List V). run a s (either (branch_count t) ∷ group ∷ [])) (run_branches t stack)
        ∙ ap (λ (s : List V). step a s group) (at_end a a.either stack (branch_values a number t) (branch_count t) (branch_values_length t))
        ∙ on_top a a.group stack (a.either (branch_values a number t))

  pub evaluated : (t : Tree) → value_of a (tree_ops number t) ≡ tree_value a number t
  evaluated t =
      ap (top a) (run-append a [] (branches_ops number t) (either (branch_count t) ∷ [])
      ∙ ap (λ (s : List V). step a s (either (branch_count t))) (run_branches t [])
      ∙ at_end a a.either [] (branch_values a number t) (branch_count t) (branch_values_length t))
      ∙ top_is a [] (tree_value a number t)
