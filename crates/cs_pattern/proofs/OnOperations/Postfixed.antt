-- The operations that are made of a tree's items are the tree's.
use Rattle.std.proofs.Common.{◌≡◌, ℕ, suc, get_or, ◌+◌, ◌-◌, ◌<◌, ◌≤◌, List, [], ◌∷◌, ◌++◌, length, map, take, refl, sym, ap, ◌∙◌, subst, append_assoc, arith, length-append}
use Rattle.std.specs.Prelude.{slice_index_or}
use Rattle.std.proofs.lemmas.List.{append-nil, take_more, map_push}
use Rattle.std.proofs.Math.Seq.{take-append_seam, get_or-append_seam}
use Rattle.cs_pattern_parts.specs.declared.items.item.Repetition.{Repetition}
use Rattle.cs_pattern.specs.declared.operations.operations.Level.{Level}
use Rattle.cs_pattern_parts.specs.Items.Items as items
use Rattle.cs_pattern_parts.specs.Items.Items.{Item, Placed, items_of}
use Rattle.cs_pattern_parts.specs.declared.items.item.Placed as held
use Rattle.cs_pattern_parts.specs.Items.Views.{item_of, placed_of, placed_all}
use Rattle.cs_pattern.specs.Operations.Grammar.{Tree, LastBranch, Or, Branch, LastPiece, Beside, Piece, Repeated, Atom, Bytes, Quote, Name, Group, tree_items, branch_items, piece_items, atom_items}
use Rattle.cs_pattern.specs.Operations.Operations.{Op, class, quoted, substitute, repeat, group, join, either, branch_count, piece_count, tree_ops, branches_ops, pieces_ops, piece_ops, atom_ops}
use Rattle.cs_pattern.specs.Operations.Postfix.{State, in_64_bits, new_level, with_piece, ended, with_repetition, barred, closed, step, state_after}

abbrev level : ℕ → ℕ → Level
level b p = record { branches = b; pieces = p }

abbrev state : List Op → List Level → ℕ → ℕ → State
state ops outer b p = record { ops = ops; outer = outer; level = level b p }

-- the greatest count
abbrev most : ℕ
most = 18446744073709551615

in_64_bits_is : (n : ℕ) → n ≤ most → in_64_bits n ≡ n
in_64_bits_is n le = omega arith

pub steps-append : (number : List ℕ → ℕ) (s : State) (xs ys : List Item) → state_after number s (xs ++ ys) ≡ state_after number (state_after number s xs) ys
steps-append number s [] ys = refl
steps-append number s (x ∷ xs) ys = steps-append number (step number s x) xs ys

length_last : {A : Type 0} (xs : List A) (x : A) → length (xs ++ x ∷ []) - 1 ≡ length xs
length_last xs x = omega (arith, length-append xs (x ∷ []))

-- a group is closed where it was opened
closes : (ops : List Op) (outer : List Level) (b p : ℕ) (l : Level) → closed (state ops (outer ++ l ∷ []) b p) ≡ record { ops = (ops ++ ended (level b p)) ++ group ∷ []; outer = outer; level = with_piece l }
closes ops outer b p l =
    ap (λ n. record { ops = (ops ++ ended (level b p)) ++ group ∷ []; outer = take n (outer ++ l ∷ []); level = with_piece (slice_index_or (outer ++ l ∷ []) n new_level) }) (length_last outer l)
    ∙ ap (λ (o : List Level). record { ops = (ops ++ ended (level b p)) ++ group ∷ []; outer = o; level = with_piece (slice_index_or (outer ++ l ∷ []) (length outer) new_level) }) (take-append_seam outer (l ∷ []))
    ∙ ap (λ (m : Level). record { ops = (ops ++ ended (level b p)) ++ group ∷ []; outer = outer; level = with_piece m }) (get_or-append_seam outer l [] new_level)

repeats : (number : List ℕ → ℕ) (s : State) (rs : List Repetition) → state_after number s (map items.repetition rs) ≡ record { ops = s.ops ++ map repeat rs; outer = s.outer; level = s.level }
repeats number s [] = ap (λ (o : List Op). record { ops = o; outer = s.outer; level = s.level }) (sym (append-nil s.ops))
repeats number s (r ∷ rs) =
    repeats number (with_repetition s r) rs
    ∙ ap (λ (o : List Op). record { ops = o; outer = s.outer; level = s.level }) (append_assoc s.ops (repeat r ∷ []) (map repeat rs))

-- what is left of a tree is ended
record IsEnded (number : List ℕ → ℕ) (ops : List Op) (outer : List Level) (b : ℕ) (t : Tree) (s : State) : Type 0 where
  outer_is : s.outer ≡ outer
  ops_is : s.ops ++ ended s.level ≡ ops ++ (branches_ops number t ++ either (b + branch_count t) ∷ [])

mutual
  branch_length : (x : Branch) → 1 ≤ length (branch_items x)
  branch_length (LastPiece p) = piece_length p
  branch_length (Beside p x) = omega (arith, length-append (piece_items p) (branch_items x), piece_length p)

  piece_length : (p : Piece) → 1 ≤ length (piece_items p)
  piece_length (Repeated a rs) = omega (arith, length-append (atom_items a) (map items.repetition rs), atom_length a)

  atom_length : (a : Atom) → 1 ≤ length (atom_items a)
  atom_length (Bytes set) = omega arith
  atom_length (Quote bytes) = omega arith
  atom_length (Name name) = omega arith
  atom_length (Group t) = omega arith

module _ (number : List ℕ → ℕ) where
  ends : (t : Tree) (ops : List Op) (outer : List Level) (b p : ℕ) (s : State) → p + 1 ≤ most → IsEnded number ops (outer ++ level b p ∷ []) 0 t s → closed s ≡ state (ops ++ (branches_ops number t ++ either (branch_count t) ∷ group ∷ [])) outer b (p + 1)
  ends t ops outer b p s le e =
      ap (λ (o : List Level). closed (record { ops = s.ops; outer = o; level = s.level })) e.outer_is
      ∙ closes s.ops outer s.level.branches s.level.pieces (level b p)
      ∙ ap (λ (o : List Op). record { ops = o ++ group ∷ []; outer = outer; level = with_piece (level b p) }) e.ops_is
      ∙ ap (λ n. record { ops = (ops ++ (branches_ops number t ++ either n ∷ [])) ++ group ∷ []; outer = outer; level = with_piece (level b p) }) (let n : 0 + branch_count t ≡ branch_count t = omega arith in n)
      ∙ ap (λ (o : List Op). record { ops = o; outer = outer; level = with_piece (level b p) }) (append_assoc ops (branches_ops number t ++ either (branch_count t) ∷ []) (group ∷ []))
      ∙ ap (λ (o : List Op). record { ops = ops ++ o; outer = outer; level = with_piece (level b p) }) (append_assoc (branches_ops number t) (either (branch_count t) ∷ []) (group ∷ []))
      ∙ ap (λ n. state (ops ++ (branches_ops number t ++ either (branch_count t) ∷ group ∷ [])) outer b n) (in_64_bits_is (p + 1) le)

  mutual
    tree_steps : (t : Tree) (ops : List Op) (outer : List Level) (b : ℕ) → b + length (tree_items t) ≤ most → IsEnded number ops outer b t (state_after number (state ops outer b 0) (tree_items t))
    tree_steps (LastBranch x) ops outer b le =
        let e = branch_steps x ops outer b 0 (omega arith) in
        let c : in_64_bits (b + 1) ≡ b + 1 = in_64_bits_is (b + 1) (omega (arith, branch_length x)) in
        subst (IsEnded number ops outer b (LastBranch x)) (sym e) (record {
          outer_is = refl;
          ops_is =
              ap (λ n. (ops ++ pieces_ops number x) ++ join (0 + piece_count x) ∷ either n ∷ []) c
              ∙ append_assoc ops (pieces_ops number x) (join (0 + piece_count x) ∷ either (b + 1) ∷ [])
              ∙ ap (λ n. ops ++ (pieces_ops number x ++ join n ∷ either (b + 1) ∷ [])) (let z : 0 + piece_count x ≡ piece_count x = omega arith in z)
              ∙ ap (λ (o : List Op). ops ++ o) (sym (append_assoc (pieces_ops number x) (join (piece_count x) ∷ []) (either (b + 1) ∷ [])));
        })
    tree_steps (Or x t) ops outer b le =
        let long : length (tree_items (Or x t)) ≡ length (branch_items x) + suc (length (tree_items t)) = length-append (branch_items x) (items.bar ∷ tree_items t) in
        let e = branch_steps x ops outer b 0 (omega arith) in
        let c : in_64_bits (b + 1) ≡ b + 1 = in_64_bits_is (b + 1) (omega arith) in
        let z : 0 + piece_count x ≡ piece_count x = omega arith in
        let done : state_after number (state ops outer b 0) (branch_items x ++ items.bar ∷ tree_items t) ≡ state_after number (state ((ops ++ pieces_ops number x) ++ join (piece_count x) ∷ []) outer (b + 1) 0) (tree_items t) =
        steps-append number (state ops outer b 0) (branch_items x) (items.bar ∷ tree_items t)
        ∙ ap (λ (s : State). state_after number (barred s) (tree_items t)) e
        ∙ ap (λ n. state_after number (state ((ops ++ pieces_ops number x) ++ join n ∷ []) outer (in_64_bits (b + 1)) 0) (tree_items t)) z
        ∙ ap (λ n. state_after number (state ((ops ++ pieces_ops number x) ++ join (piece_count x) ∷ []) outer n 0) (tree_items t)) c in
        let more = tree_steps t ((ops ++ pieces_ops number x) ++ join (piece_count x) ∷ []) outer (b + 1) (omega arith) in
        subst (IsEnded number ops outer b (Or x t)) (sym done) (record {
          outer_is = more.outer_is;
          ops_is =
              more.ops_is
              ∙ ap (λ n. ((ops ++ pieces_ops number x) ++ join (piece_count x) ∷ []) ++ (branches_ops number t ++ either n ∷ [])) (let n : (b + 1) + branch_count t ≡ b + (1 + branch_count t) = omega arith in n)
              ∙ append_assoc (ops ++ pieces_ops number x) (join (piece_count x) ∷ []) (branches_ops number t ++ either (b + (1 + branch_count t)) ∷ [])
              ∙ append_assoc ops (pieces_ops number x) (join (piece_count x) ∷ (branches_ops number t ++ either (b + (1 + branch_count t)) ∷ []))
              ∙ ap (λ (o : List Op). ops ++ o) (sym (append_assoc (pieces_ops number x) (join (piece_count x) ∷ branches_ops number t) (either (b + (1 + branch_count t)) ∷ [])));
        })

    branch_steps : (x : Branch) (ops : List Op) (outer : List Level) (b p : ℕ) → p + length (branch_items x) ≤ most → state_after number (state ops outer b p) (branch_items x) ≡ state (ops ++ pieces_ops number x) outer b (p + piece_count x)
    branch_steps (LastPiece q) ops outer b p le = piece_steps q ops outer b p le
    branch_steps (Beside q x) ops outer b p le =
        let long = length-append (piece_items q) (branch_items x) in
        let one = piece_length q in
        steps-append number (state ops outer b p) (piece_items q) (branch_items x)
        ∙ ap (λ (s : State). state_after number s (branch_items x)) (piece_steps q ops outer b p (omega arith))
        ∙ branch_steps x (ops ++ piece_ops number q) outer b (p + 1) (omega arith)
        ∙ ap (λ (o : List Op). state o outer b ((p + 1) + piece_count x)) (append_assoc ops (piece_ops number q) (pieces_ops number x))
        ∙ ap (λ n. state (ops ++ (piece_ops number q ++ pieces_ops number x)) outer b n) (let n : (p + 1) + piece_count x ≡ p + (1 + piece_count x) = omega arith in n)

    piece_steps : (q : Piece) (ops : List Op) (outer : List Level) (b p : ℕ) → p + length (piece_items q) ≤ most → state_after number (state ops outer b p) (piece_items q) ≡ state (ops ++ piece_ops number q) outer b (p + 1)
    piece_steps (Repeated a rs) ops outer b p le =
        let long = length-append (atom_items a) (map items.repetition rs) in
        steps-append number (state ops outer b p) (atom_items a) (map items.repetition rs)
        ∙ ap (λ (s : State). state_after number s (map items.repetition rs)) (atom_steps a ops outer b p (omega arith))
        ∙ repeats number (state (ops ++ atom_ops number a) outer b (p + 1)) rs
        ∙ ap (λ (o : List Op). state o outer b (p + 1)) (append_assoc ops (atom_ops number a) (map repeat rs))

    atom_steps : (a : Atom) (ops : List Op) (outer : List Level) (b p : ℕ) → p + length (atom_items a) ≤ most → state_after number (state ops outer b p) (atom_items a) ≡ state (ops ++ atom_ops number a) outer b (p + 1)
    atom_steps (Bytes set) ops outer b p le = ap (λ n. state (ops ++ class set ∷ []) outer b n) (in_64_bits_is (p + 1) (omega arith))
    atom_steps (Quote bytes) ops outer b p le = ap (λ n. state (ops ++ quoted bytes ∷ []) outer b n) (in_64_bits_is (p + 1) (omega arith))
    atom_steps (Name name) ops outer b p le = ap (λ n. state (ops ++ substitute (number name) ∷ group ∷ []) outer b n) (in_64_bits_is (p + 1) (omega arith))
    atom_steps (Group t) ops outer b p le =
        let long = length-append (tree_items t) (items.closing ∷ []) in
        let inner = tree_steps t ops (outer ++ level b p ∷ []) 0 (omega arith) in
        steps-append number (state ops (outer ++ level b p ∷ []) 0 0) (tree_items t) (items.closing ∷ [])
        ∙ ends t ops outer b p (state_after number (state ops (outer ++ level b p ∷ []) 0 0) (tree_items t)) (omega arith) inner

  pub is_postfix : (t : Tree) (xs : List Item) (s : State) → xs ≡ tree_items t → length xs ≤ most → s ≡ state_after number (state [] [] 0 0) xs → s.ops ++ ended s.level ≡ tree_ops number t
  is_postfix t xs s e le is =
      let long = ap length e in
      let f : s ≡ state_after number (state [] [] 0 0) (tree_items t) = is ∙ ap (state_after number (state [] [] 0 0)) e in
      let done = tree_steps t [] [] 0 (omega arith) in
      ap (λ (r : State). r.ops ++ ended r.level) f
      ∙ done.ops_is
      ∙ ap (λ n. branches_ops number t ++ either n ∷ []) (let n : 0 + branch_count t ≡ branch_count t = omega arith in n)

-- one more item
placed_more : (xs : List held.Placed) (i : ℕ) (x : held.Placed) → i < length xs → x ≡ get_or xs i x → items_of (placed_all (take (i + 1) xs)) ≡ items_of (placed_all (take i xs)) ++ item_of x.item ∷ []
placed_more xs i x lt e =
    ap (λ (l : List held.Placed). items_of (placed_all l)) (take_more xs i x lt ∙ ap (λ (y : held.Placed). take i xs ++ y ∷ []) (sym e))
    ∙ ap items_of (map_push placed_of (take i xs) x)
    ∙ map_push (λ (p : Placed). p.item) (placed_all (take i xs)) (placed_of x)

pub steps_more : (number : List ℕ → ℕ) (start s t : State) (xs : List held.Placed) (i : ℕ) (x : held.Placed) → i < length xs → x ≡ get_or xs i x
    → s ≡ state_after number start (items_of (placed_all (take i xs))) → t ≡ step number s (item_of x.item) → t ≡ state_after number start (items_of (placed_all (take (i + 1) xs)))
steps_more number start s t xs i x lt e is after =
    after
    ∙ ap (λ (u : State). step number u (item_of x.item)) is
    ∙ sym (steps-append number start (items_of (placed_all (take i xs))) (item_of x.item ∷ []))
    ∙ ap (state_after number start) (sym (placed_more xs i x lt e))
