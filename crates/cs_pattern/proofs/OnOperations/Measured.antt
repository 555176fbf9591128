-- The operations of a tree measure it, with trees of the known measures put in.
use Rattle.std.proofs.Common.{◌≡◌, ℕ, zero, suc, ◌+◌, ◌-◌, ◌*◌, ◌^◌, List, [], ◌∷◌, ◌++◌, length, map, replicate, refl, sym, ap, ◌∙◌, subst, inl, inr, arith}
use Rattle.std.specs.Prelude.{max, sum_by, slice_index_or}
use Rattle.std.proofs.lemmas.Bool.{cases_lt}
use Rattle.std.proofs.lemmas.List.Sums.{sum_by-cons}
use Rattle.cs_pattern_parts.specs.declared.items.item.Repetition.{Repetition}
use Rattle.cs_pattern_parts.specs.declared.items.item.Repetition.TheVariants.{Optional, Exactly, AtLeast, Between}
use Rattle.cs_pattern.specs.declared.operations.measure.Measure.{Measure}
use Rattle.cs_pattern.specs.Operations.Grammar.{Tree, LastBranch, Or, Branch, LastPiece, Beside, Piece, Repeated, Atom, Bytes, Quote, Name, Group, all_repeated, branch_parts, piece_parts, piece_regex, atom_regex}
use Rattle.cs_pattern_parts.specs.Tree.Pattern.{alone_or}
use Rattle.cs_pattern.specs.Operations.Measures.{repeated_leaves, greatest_depth, together, measures}
use Rattle.cs_pattern.specs.Operations.Operations.{Op}
use Rattle.cs_pattern_parts.specs.Tree.Pattern.{Regex, Empty, Join, Either, Many, Parts, Nothing, Then, parts_of, leaves, all_leaves}
use Rattle.cs_pattern_parts.specs.Tree.Repeated as repeats
use Rattle.cs_pattern.specs.Operations.Depth.{depth, branch_depth, piece_depth, atom_depth, pattern_of, in_32_bits, measure, measure_of, leaf}
use Rattle.cs_pattern.specs.Operations.Values.{repeated_value, branch_values, piece_values, piece_value, atom_value}
use Rattle.cs_pattern.specs.Operations.Evaluation.{value_of}
use Rattle.cs_pattern.proofs.OnOperations.Evaluating.{evaluated}
use Rattle.cs_pattern.specs.Operations.Trees.{PutIn, BranchPutIn, PiecePutIn, AtomPutIn, HasMeasure, GiveTree}

-- ---- leaves of what is repeated

leaves_append : (xs ys : List Regex) → all_leaves (parts_of (xs ++ ys)) ≡ all_leaves (parts_of xs) + all_leaves (parts_of ys)
leaves_append [] ys = omega arith
leaves_append (x ∷ xs) ys = omega (arith, leaves_append xs ys)

leaves_replicate : (n : ℕ) (r : Regex) → all_leaves (parts_of (replicate n r)) ≡ leaves r * n
leaves_replicate zero r = omega arith
leaves_replicate (suc n) r = omega (arith, leaves_replicate n r)

leaves_repeated : (r : Regex) (n : Repetition) → leaves (repeats.repeated r n) ≡ repeated_leaves (leaves r) n
leaves_repeated r Optional = omega arith
leaves_repeated r (Exactly n) = leaves_replicate n r
leaves_repeated r (AtLeast zero) = omega arith
leaves_repeated r (AtLeast (suc n)) = omega (arith, leaves_append (replicate (suc n) r) (Many r ∷ []), leaves_replicate (suc n) r)
leaves_repeated r (Between n m) =
    leaves_append (replicate n r) (replicate (m - n) (repeats.optional r))
    ∙ ap (λ k. k + all_leaves (parts_of (replicate (m - n) (repeats.optional r)))) (leaves_replicate n r)
    ∙ ap (λ k. leaves r * n + k) (leaves_replicate (m - n) (repeats.optional r) ∙ ap (λ k. k * (m - n)) (let e : leaves (repeats.optional r) ≡ leaves r + 1 = omega arith in e))

leaves_bytes : (bytes : List ℕ) → all_leaves (parts_of (map repeats.one_byte bytes)) ≡ length bytes
leaves_bytes [] = refl
leaves_bytes (b ∷ bytes) = omega (arith, leaves_bytes bytes)

leaves_quoted : (bytes : List ℕ) → leaves (repeats.quoted bytes) ≡ max (length bytes) 1
leaves_quoted [] = omega arith
leaves_quoted (b ∷ bytes) = omega (arith, leaves_bytes bytes)

leaves_join : (ps : Parts) → leaves (alone_or Join ps) ≡ all_leaves ps
leaves_join Nothing = refl
leaves_join (Then r Nothing) = omega arith
leaves_join (Then r (Then s ps)) = refl

leaves_either : (ps : Parts) → leaves (alone_or Either ps) ≡ all_leaves ps
leaves_either Nothing = refl
leaves_either (Then r Nothing) = omega arith
leaves_either (Then r (Then s ps)) = refl

-- ---- in_32_bits numbers

capped_line : (x a b : ℕ) → in_32_bits (in_32_bits x * a + b) ≡ in_32_bits (x * a + b)
capped_line x zero b = omega arith
capped_line x (suc a) b =
    elim (cases_lt x (2 ^ 32)) [
      | inl small ↦ let e : in_32_bits x ≡ x = omega arith in ap (λ n. in_32_bits (n * suc a + b)) e
      | inr large ↦
          let e : in_32_bits x ≡ 2 ^ 32 - 1 = omega arith in
          let p : x * suc a ≡ x * a + x = omega arith in
          let q : (2 ^ 32 - 1) * suc a ≡ (2 ^ 32 - 1) * a + (2 ^ 32 - 1) = omega arith in
          ap (λ n. in_32_bits (n * suc a + b)) e ∙ (let f : in_32_bits ((2 ^ 32 - 1) * suc a + b) ≡ in_32_bits (x * suc a + b) = omega arith in f)
    ]

between_line : (x n k : ℕ) → x * n + (x + 1) * k ≡ x * (n + k) + k
between_line x n k = omega arith

capped_repeated : (x : ℕ) (n : Repetition) → in_32_bits (repeated_leaves (in_32_bits x) n) ≡ in_32_bits (repeated_leaves x n)
capped_repeated x Optional = omega arith
capped_repeated x (Exactly n) =
    ap in_32_bits (let e : in_32_bits x * n ≡ in_32_bits x * n + 0 = omega arith in e) ∙ capped_line x n 0 ∙ ap in_32_bits (let e : x * n + 0 ≡ x * n = omega arith in e)
capped_repeated x (AtLeast n) =
    ap in_32_bits (let e : in_32_bits x * (n + 1) ≡ in_32_bits x * (n + 1) + 0 = omega arith in e) ∙ capped_line x (n + 1) 0 ∙ ap in_32_bits (let e : x * (n + 1) + 0 ≡ x * (n + 1) = omega arith in e)
capped_repeated x (Between n m) =
    ap in_32_bits (between_line (in_32_bits x) n (m - n)) ∙ capped_line x (n + (m - n)) (m - n) ∙ ap in_32_bits (sym (between_line x n (m - n)))

measure_same : (d e l k : ℕ) → in_32_bits d ≡ in_32_bits e → in_32_bits l ≡ in_32_bits k → measure d l ≡ measure e k
measure_same d e l k f g = ap (λ n. let m : Measure = record { depth = n; leaves = in_32_bits l } in m) f ∙ ap (λ n. let m : Measure = record { depth = in_32_bits e; leaves = n } in m) g

grouped : (m : Measure) (d l : ℕ) → m ≡ measure d l → measure (m.depth + 1) m.leaves ≡ measure (d + 1) l
grouped m d l e = ap (λ (n : Measure). measure (n.depth + 1) n.leaves) e ∙ measure_same (in_32_bits d + 1) (d + 1) (in_32_bits l) l (omega arith) (omega arith)

-- these parts have together the depth and the leaves
record Adds (ms : List Measure) (d l : ℕ) : Type 0 where
  deep : greatest_depth ms ≡ in_32_bits d
  many : in_32_bits (sum_by (λ m. m.leaves) ms) ≡ in_32_bits l

together_is : (ms : List Measure) (d l : ℕ) → Adds ms d l → together ms ≡ measure d l
together_is ms d l h =
    ap (λ n. let m : Measure = record { depth = n; leaves = in_32_bits (sum_by (λ x. x.leaves) ms) } in m) h.deep
    ∙ ap (λ n. let m : Measure = record { depth = in_32_bits d; leaves = n } in m) h.many

adds_one : (m : Measure) (d l k : ℕ) → m ≡ measure d l → k ≡ l + 0 → Adds (m ∷ []) d k
adds_one m d l k e f =
    let a = ap (λ (n : Measure). n.depth) e in
    let b = ap (λ (n : Measure). n.leaves) e in
    record { deep = omega (arith, a); many = omega (arith, b, f) }

adds_more : (m : Measure) (ms : List Measure) (d l e k : ℕ) → m ≡ measure d l → Adds ms e k → Adds (m ∷ ms) (max d e) (l + k)
adds_more m ms d l e k is h =
    let a = ap (λ (n : Measure). n.depth) is in
    let b = ap (λ (n : Measure). n.leaves) is in
    record { deep = omega (arith, a, h.deep); many = omega (arith, b, h.many, sum_by-cons (λ (x : Measure). x.leaves) m ms) }

adds_leaves : (ms : List Measure) (d l k : ℕ) → l ≡ k → Adds ms d l → Adds ms d k
adds_leaves ms d l k e h = subst (Adds ms d) e h

abbrev no_names : List ℕ → Regex
no_names name = Empty

repeats_measured : (known : List Measure) (r : Regex) (d : ℕ) (m : Measure) (rs : List Repetition) → m ≡ measure d (leaves r) → repeated_value (measures known) m rs ≡ measure (d + length rs) (leaves (all_repeated r rs))
repeats_measured known r d m [] e = e ∙ ap (λ n. measure n (leaves r)) (let f : d ≡ d + 0 = omega arith in f)
repeats_measured known r d m (n ∷ rs) e =
    let one : measure (m.depth + 1) (repeated_leaves m.leaves n) ≡ measure (d + 1) (leaves (repeats.repeated r n)) =
    ap (λ (x : Measure). measure (x.depth + 1) (repeated_leaves x.leaves n)) e
    ∙ measure_same (in_32_bits d + 1) (d + 1) (repeated_leaves (in_32_bits (leaves r)) n) (leaves (repeats.repeated r n)) (omega arith) (capped_repeated (leaves r) n ∙ ap in_32_bits (sym (leaves_repeated r n))) in
    repeats_measured known (repeats.repeated r n) (d + 1) (measure (m.depth + 1) (repeated_leaves m.leaves n)) rs one
    ∙ ap (λ k. measure k (leaves (all_repeated (repeats.repeated r n) rs))) (let f : (d + 1) + length rs ≡ d + suc (length rs) = omega arith in f)

module _ (known : List Measure) (number : List ℕ → ℕ) where
  abbrev IsFor : List ℕ → Tree → Type 0
  IsFor name = HasMeasure known (number name)

  mutual
    branches_add : (u t : Tree) → PutIn IsFor u t → Adds (branch_values (measures known) number t) (depth u) (all_leaves (branch_parts no_names u))
    branches_add (LastBranch b) t p =
        let h = pieces_add b p.0 p.2 in
        subst (λ (x : Tree). Adds (branch_values (measures known) number x) (branch_depth b) (all_leaves (branch_parts no_names (LastBranch b)))) (sym p.1)
        (adds_one _ (branch_depth b) (all_leaves (piece_parts no_names b)) _ (together_is _ _ _ h) (ap (λ n. n + 0) (leaves_join (piece_parts no_names b))))
    branches_add (Or b u) t p =
        let h = pieces_add b p.0 p.3 in
        let more = branches_add u p.1 p.4 in
        subst (λ (x : Tree). Adds (branch_values (measures known) number x) (max (branch_depth b) (depth u)) (all_leaves (branch_parts no_names (Or b u)))) (sym p.2)
        (adds_leaves _ _ _ _ (ap (λ n. n + all_leaves (branch_parts no_names u)) (sym (leaves_join (piece_parts no_names b))))
        (adds_more _ _ (branch_depth b) (all_leaves (piece_parts no_names b)) (depth u) (all_leaves (branch_parts no_names u)) (together_is _ _ _ h) more))

    pieces_add : (b c : Branch) → BranchPutIn IsFor b c → Adds (piece_values (measures known) number c) (branch_depth b) (all_leaves (piece_parts no_names b))
    pieces_add (LastPiece q) c p =
        subst (λ (x : Branch). Adds (piece_values (measures known) number x) (piece_depth q) (all_leaves (piece_parts no_names (LastPiece q)))) (sym p.1)
        (adds_one _ (piece_depth q) (leaves (piece_regex no_names q)) _ (piece_measured q p.0 p.2) refl)
    pieces_add (Beside q b) c p =
        subst (λ (x : Branch). Adds (piece_values (measures known) number x) (max (piece_depth q) (branch_depth b)) (all_leaves (piece_parts no_names (Beside q b)))) (sym p.2)
        (adds_more _ _ (piece_depth q) (leaves (piece_regex no_names q)) (branch_depth b) (all_leaves (piece_parts no_names b)) (piece_measured q p.0 p.3) (pieces_add b p.1 p.4))

    piece_measured : (q w : Piece) → PiecePutIn IsFor q w → piece_value (measures known) number w ≡ measure (piece_depth q) (leaves (piece_regex no_names q))
    piece_measured (Repeated a rs) w p =
        ap (piece_value (measures known) number) p.1
        ∙ repeats_measured known (atom_regex no_names a) (atom_depth a) (atom_value (measures known) number p.0) rs (atom_measured a p.0 p.2)

    atom_measured : (a w : Atom) → AtomPutIn IsFor a w → atom_value (measures known) number w ≡ measure (atom_depth a) (leaves (atom_regex no_names a))
    atom_measured (Bytes set) w p = ap (atom_value (measures known) number) p
    atom_measured (Quote bytes) w p = ap (atom_value (measures known) number) p ∙ ap (measure 0) (sym (leaves_quoted bytes))
    atom_measured (Name name) w p = absurd p
    atom_measured (Group u) w (inl p) =
        let h = branches_add u p.0 p.2 in
        ap (atom_value (measures known) number) p.1
        ∙ grouped _ (depth u) (leaves (pattern_of u)) (together_is _ _ _ h ∙ ap (measure (depth u)) (sym (leaves_either (branch_parts no_names u))))
    atom_measured (Group u) w (inr p) =
        ap (atom_value (measures known) number) p.1
        ∙ grouped (slice_index_or known (number p.0) leaf) (depth u) (leaves (pattern_of u)) p.2

pub measured : (known : List Measure) (ops : List Op) (tree : Tree) → GiveTree (HasMeasure known) ops tree → value_of (measures known) ops ≡ measure_of tree
measured known ops tree g =
    ap (value_of (measures known)) g.are
    ∙ evaluated (measures known) g.number g.spelled
    ∙ together_is _ _ _ (branches_add known g.number tree g.spelled g.put_in)
    ∙ ap (measure (depth tree)) (sym (leaves_either (branch_parts no_names tree)))
