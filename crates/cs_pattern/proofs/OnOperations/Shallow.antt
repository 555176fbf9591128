-- While the operations of a tree that is not deep make its pattern, no pattern on the stack is deeper than 1,000.
use Rattle.std.proofs.Common.{◌≡◌, ℕ, ◌+◌, ◌*◌, ◌≤◌, List, [], ◌∷◌, ◌++◌, length, map, sym, ap, ◌∙◌, subst, inl, inr, arith}
use Rattle.std.specs.Prelude.{All}
use Rattle.std.proofs.lemmas.List.Elements.{All-append, All-cons, All-nil}
use Rattle.cs_pattern_parts.specs.declared.items.item.Repetition.{Repetition}
use Rattle.cs_pattern_parts.specs.declared.tree.pattern.Pattern.{Pattern}
use Rattle.cs_pattern_parts.specs.Tree.Pattern.{Regex, Empty, Join, Either, Parts, parts_of, alone_or, nesting}
use Rattle.cs_pattern_parts.specs.Tree.Repeated.{repeated, quoted}
use Rattle.cs_pattern.specs.Operations.Building.{patterns, IsShallow, StayShallow}
use Rattle.cs_pattern.specs.Operations.Depth.{depth, branch_depth, piece_depth, atom_depth}
use Rattle.cs_pattern.specs.Operations.Evaluation.{Keeps, run, step}
use Rattle.cs_pattern.specs.Operations.Grammar.{Tree, LastBranch, Or, Branch, LastPiece, Beside, Piece, Repeated, Atom, Bytes, Quote, Name, Group, branch_parts, piece_parts, atom_regex}
use Rattle.cs_pattern.specs.Operations.Operations.{Op, repeat, group, join, either, tree_ops, branches_ops, pieces_ops, piece_ops, atom_ops, branch_count, piece_count}
use Rattle.cs_pattern.specs.Operations.Values.{branch_values, piece_values, piece_value, atom_value}
use Rattle.cs_pattern.specs.Operations.Trees.{known_at, PutIn, BranchPutIn, PiecePutIn, AtomPutIn, GiveShallow}
use Rattle.cs_pattern.proofs.OnOperations.Built.{IsFor, branches_built, pieces_built, atom_built}
use Rattle.cs_pattern.proofs.OnOperations.Evaluating.{run_branches, run_pieces, run_piece, run_atom, on_top, at_end, branch_values_length, piece_values_length}
use Rattle.cs_pattern.proofs.OnOperations.Keeping.{keeps-append, keeps_end}
use Rattle.cs_pattern.proofs.OnOperations.Nested.{repeated_nested, quoted_nested, join_nested, either_nested, branches_nested, pieces_nested, atom_nested, tree_nested}

abbrev no_names : List ℕ → Regex
no_names name = Empty

-- one more on a stack
put_on : (stack : List Regex) (r : Regex) → All IsShallow stack → nesting r ≤ 1000 → All IsShallow (stack ++ r ∷ [])
put_on stack r all h = All-append IsShallow stack (r ∷ []) all (All-cons IsShallow r [] h (All-nil IsShallow))

module _ (known : ℕ → Regex) (number : List ℕ → ℕ) where
  abbrev Stay : List Regex → List Op → Type 0
  Stay = Keeps (patterns known) IsShallow

  abbrev ByNumber : List ℕ → Tree → Type 0
  ByNumber = IsFor known number

  repeats_stay : (stack : List Regex) (r : Regex) (d : ℕ) (rs : List Repetition) → All IsShallow stack → nesting r ≤ 2 * d + 1 → d + length rs ≤ 200 → Stay (stack ++ r ∷ []) (map repeat rs)
  repeats_stay stack r d [] all h deep = put_on stack r all (omega arith)
  repeats_stay stack r d (n ∷ rs) all h deep = (
    put_on stack r all (omega arith),
    subst (λ (s : List Regex). Stay s (map repeat rs)) (sym (on_top (patterns known) (λ p. repeated p n) stack r))
        (repeats_stay stack (repeated r n) (d + 1) rs all (omega (arith, repeated_nested r n)) (omega arith)),
  )

  -- a branch whose pieces stay shallow, and what comes behind it
  branch_then : (b c : Branch) → BranchPutIn ByNumber b c → branch_depth b ≤ 200 → (stack : List Regex) → All IsShallow stack → Stay stack (pieces_ops number c)
      → (rest : List Op) → (All IsShallow (stack ++ alone_or Join (parts_of (piece_values (patterns known) number c)) ∷ []) → Stay (stack ++ alone_or Join (parts_of (piece_values (patterns known) number c)) ∷ []) rest)
      → Stay stack (pieces_ops number c ++ join (piece_count c) ∷ rest)
  branch_then b c p deep stack all before rest next =
      let v = alone_or Join (parts_of (piece_values (patterns known) number c)) in
      let whole : v ≡ alone_or Join (piece_parts no_names b) = ap (alone_or Join) (pieces_built known number b c p) in
      let n = ap nesting whole in
      let step_is : step (patterns known) (run (patterns known) stack (pieces_ops number c)) (join (piece_count c)) ≡ stack ++ v ∷ [] =
      ap (λ (s : List Regex). step (patterns known) s (join (piece_count c))) (run_pieces (patterns known) number c stack)
      ∙ at_end (patterns known) (λ ps. alone_or Join (parts_of ps)) stack (piece_values (patterns known) number c) (piece_count c) (piece_values_length (patterns known) number c) in
      let on = put_on stack v all (omega (arith, n, join_nested (piece_parts no_names b), pieces_nested b)) in
      keeps-append (patterns known) IsShallow (pieces_ops number c) (join (piece_count c) ∷ rest) stack before
      (keeps_end (patterns known) IsShallow (pieces_ops number c) stack before, subst (λ (s : List Regex). Stay s rest) (sym step_is) (next on))

  mutual
    branches_stay : (u t : Tree) → PutIn ByNumber u t → depth u ≤ 200 → (stack : List Regex) → All IsShallow stack → Stay stack (branches_ops number t)
    branches_stay (LastBranch b) t p deep stack all =
        subst (λ (x : Tree). Stay stack (branches_ops number x)) (sym p.1) (branch_then b p.0 p.2 deep stack all (pieces_stay b p.0 p.2 deep stack all) [] (λ on. on))
    branches_stay (Or b u) t p deep stack all =
        subst (λ (x : Tree). Stay stack (branches_ops number x)) (sym p.2)
        (branch_then b p.0 p.3 (omega arith) stack all (pieces_stay b p.0 p.3 (omega arith) stack all) (branches_ops number p.1) (branches_stay u p.1 p.4 (omega arith) (stack ++ alone_or Join (parts_of (piece_values (patterns known) number p.0)) ∷ [])))

    pieces_stay : (b c : Branch) → BranchPutIn ByNumber b c → branch_depth b ≤ 200 → (stack : List Regex) → All IsShallow stack → Stay stack (pieces_ops number c)
    pieces_stay (LastPiece q) c p deep stack all =
        subst (λ (x : Branch). Stay stack (pieces_ops number x)) (sym p.1) (piece_stays q p.0 p.2 deep stack all)
    pieces_stay (Beside q b) c p deep stack all =
        let first = piece_stays q p.0 p.3 (omega arith) stack all in
        let there = run_piece (patterns known) number p.0 stack in
        let on = subst (All IsShallow) there (keeps_end (patterns known) IsShallow (piece_ops number p.0) stack first) in
        let others = pieces_stay b p.1 p.4 (omega arith) (stack ++ piece_value (patterns known) number p.0 ∷ []) on in
        subst (λ (x : Branch). Stay stack (pieces_ops number x)) (sym p.2)
        (keeps-append (patterns known) IsShallow (piece_ops number p.0) (pieces_ops number p.1) stack first (subst (λ (s : List Regex). Stay s (pieces_ops number p.1)) (sym there) others))

    piece_stays : (q w : Piece) → PiecePutIn ByNumber q w → piece_depth q ≤ 200 → (stack : List Regex) → All IsShallow stack → Stay stack (piece_ops number w)
    piece_stays (Repeated a rs) w p deep stack all =
        let first = atom_stays a p.0 p.2 (omega arith) stack all in
        let there = run_atom (patterns known) number p.0 stack in
        let n = ap nesting (atom_built known number a p.0 p.2) in
        let others = repeats_stay stack (atom_value (patterns known) number p.0) (atom_depth a) rs all (omega (arith, n, atom_nested a)) deep in
        subst (λ (x : Piece). Stay stack (piece_ops number x)) (sym p.1)
        (keeps-append (patterns known) IsShallow (atom_ops number p.0) (map repeat rs) stack first (subst (λ (s : List Regex). Stay s (map repeat rs)) (sym there) others))

    atom_stays : (a w : Atom) → AtomPutIn ByNumber a w → atom_depth a ≤ 200 → (stack : List Regex) → All IsShallow stack → Stay stack (atom_ops number w)
    atom_stays (Bytes set) w p deep stack all = subst (λ (x : Atom). Stay stack (atom_ops number x)) (sym p) (all, put_on stack (atom_regex no_names (Bytes set)) all (omega arith))
    atom_stays (Quote bytes) w p deep stack all = subst (λ (x : Atom). Stay stack (atom_ops number x)) (sym p) (all, put_on stack (quoted bytes) all (omega (arith, quoted_nested bytes)))
    atom_stays (Name name) w p deep stack all = absurd p
    atom_stays (Group u) w (inl p) deep stack all =
        let inside = branches_stay u p.0 p.2 (omega arith) stack all in
        let v = alone_or Either (parts_of (branch_values (patterns known) number p.0)) in
        let n = ap (λ (ps : Parts). nesting (alone_or Either ps)) (branches_built known number u p.0 p.2) in
        let on = put_on stack v all (omega (arith, n, either_nested (branch_parts no_names u), branches_nested u)) in
        let step_is : step (patterns known) (run (patterns known) stack (branches_ops number p.0)) (either (branch_count p.0)) ≡ stack ++ v ∷ [] =
        ap (λ (s : List Regex). step (patterns known) s (either (branch_count p.0))) (run_branches (patterns known) number p.0 stack)
        ∙ at_end (patterns known) (λ ps. alone_or Either (parts_of ps)) stack (branch_values (patterns known) number p.0) (branch_count p.0) (branch_values_length (patterns known) number p.0) in
        let closed : Stay (stack ++ v ∷ []) (group ∷ []) = (on, subst (All IsShallow) (sym (on_top (patterns known) (λ r. r) stack v)) on) in
        subst (λ (x : Atom). Stay stack (atom_ops number x)) (sym p.1)
        (keeps-append (patterns known) IsShallow (branches_ops number p.0) (either (branch_count p.0) ∷ group ∷ []) stack inside
        (keeps_end (patterns known) IsShallow (branches_ops number p.0) stack inside, subst (λ (s : List Regex). Stay s (group ∷ [])) (sym step_is) closed))
    atom_stays (Group u) w (inr p) deep stack all =
        let n = ap nesting p.2 in
        let on = put_on stack (known (number p.0)) all (omega (arith, n, tree_nested u)) in
        subst (λ (x : Atom). Stay stack (atom_ops number x)) (sym p.1) (all, (on, subst (All IsShallow) (sym (on_top (patterns known) (λ r. r) stack (known (number p.0)))) on))

  tree_stays : (tree spelled : Tree) → PutIn ByNumber tree spelled → depth tree ≤ 200 → Stay [] (tree_ops number spelled)
  tree_stays u t p deep =
      let inside = branches_stay u t p deep [] (All-nil IsShallow) in
      let v = alone_or Either (parts_of (branch_values (patterns known) number t)) in
      let n = ap (λ (ps : Parts). nesting (alone_or Either ps)) (branches_built known number u t p) in
      let on = put_on [] v (All-nil IsShallow) (omega (arith, n, either_nested (branch_parts no_names u), branches_nested u)) in
      let step_is : step (patterns known) (run (patterns known) [] (branches_ops number t)) (either (branch_count t)) ≡ v ∷ [] =
      ap (λ (s : List Regex). step (patterns known) s (either (branch_count t))) (run_branches (patterns known) number t [])
      ∙ at_end (patterns known) (λ ps. alone_or Either (parts_of ps)) [] (branch_values (patterns known) number t) (branch_count t) (branch_values_length (patterns known) number t) in
      keeps-append (patterns known) IsShallow (branches_ops number t) (either (branch_count t) ∷ []) [] inside
      (keeps_end (patterns known) IsShallow (branches_ops number t) [] inside, subst (All IsShallow) (sym step_is) on)

pub stay_shallow : (known : List (ℕ × Pattern)) (ops : List Op) → GiveShallow known ops → StayShallow known ops
stay_shallow known ops g = subst (StayShallow known) (sym g.given.are) (tree_stays (known_at known) g.given.number g.tree g.given.spelled g.given.put_in g.shallow)
