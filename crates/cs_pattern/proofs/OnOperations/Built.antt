-- The operations of a tree build its pattern, with trees of the known patterns put in.
use Rattle.std.proofs.Common.{◌≡◌, ℕ, List, [], ◌∷◌, refl, ap, ◌∙◌, inl, inr}
use Rattle.cs_pattern_parts.specs.declared.items.item.Repetition.{Repetition}
use Rattle.cs_pattern_parts.specs.declared.tree.pattern.Pattern.{Pattern}
use Rattle.cs_pattern_parts.specs.Tree.Pattern.{Regex, Empty, Join, Either, Parts, Nothing, Then, parts_of, alone_or}
use Rattle.cs_pattern_parts.specs.Tree.Repeated as repeats
use Rattle.cs_pattern.specs.Operations.Building.{patterns}
use Rattle.cs_pattern.specs.Operations.Depth.{pattern_of}
use Rattle.cs_pattern.specs.Operations.Evaluation.{value_of}
use Rattle.cs_pattern.specs.Operations.Grammar.{Tree, LastBranch, Or, Branch, LastPiece, Beside, Piece, Repeated, Atom, Bytes, Quote, Name, Group, all_repeated, branch_parts, piece_parts, piece_regex, atom_regex}
use Rattle.cs_pattern.specs.Operations.Operations.{Op}
use Rattle.cs_pattern.specs.Operations.Trees.{known_at, PutIn, BranchPutIn, PiecePutIn, AtomPutIn, HasPattern, GiveTree}
use Rattle.cs_pattern.specs.Operations.Values.{repeated_value, branch_values, piece_values, piece_value, atom_value}
use Rattle.cs_pattern.proofs.OnOperations.Evaluating.{evaluated}

abbrev no_names : List ℕ → Regex
no_names name = Empty

repeats_built : (known : ℕ → Regex) (r : Regex) (rs : List Repetition) → repeated_value (patterns known) r rs ≡ all_repeated r rs
repeats_built known r [] = refl
repeats_built known r (n ∷ rs) = repeats_built known (repeats.repeated r n) rs

module _ (known : ℕ → Regex) (number : List ℕ → ℕ) where
  abbrev pub IsFor : List ℕ → Tree → Type 0
  IsFor name tree = known (number name) ≡ pattern_of tree

  mutual
    pub branches_built : (u t : Tree) → PutIn IsFor u t → parts_of (branch_values (patterns known) number t) ≡ branch_parts no_names u
    branches_built (LastBranch b) t p =
        ap (λ (x : Tree). parts_of (branch_values (patterns known) number x)) p.1
        ∙ ap (λ (ps : Parts). Then (alone_or Join ps) Nothing) (pieces_built b p.0 p.2)
    branches_built (Or b u) t p =
        ap (λ (x : Tree). parts_of (branch_values (patterns known) number x)) p.2
        ∙ ap (λ (ps : Parts). Then (alone_or Join ps) (parts_of (branch_values (patterns known) number p.1))) (pieces_built b p.0 p.3)
        ∙ ap (Then (alone_or Join (piece_parts no_names b))) (branches_built u p.1 p.4)

    pub pieces_built : (b c : Branch) → BranchPutIn IsFor b c → parts_of (piece_values (patterns known) number c) ≡ piece_parts no_names b
    pieces_built (LastPiece q) c p =
        ap (λ (x : Branch). parts_of (piece_values (patterns known) number x)) p.1
        ∙ ap (λ (r : Regex). Then r Nothing) (piece_built q p.0 p.2)
    pieces_built (Beside q b) c p =
        ap (λ (x : Branch). parts_of (piece_values (patterns known) number x)) p.2
        ∙ ap (λ (r : Regex). Then r (parts_of (piece_values (patterns known) number p.1))) (piece_built q p.0 p.3)
        ∙ ap (Then (piece_regex no_names q)) (pieces_built b p.1 p.4)

    pub piece_built : (q w : Piece) → PiecePutIn IsFor q w → piece_value (patterns known) number w ≡ piece_regex no_names q
    piece_built (Repeated a rs) w p =
        ap (piece_value (patterns known) number) p.1
        ∙ repeats_built known (atom_value (patterns known) number p.0) rs
        ∙ ap (λ (r : Regex). all_repeated r rs) (atom_built a p.0 p.2)

    pub atom_built : (a w : Atom) → AtomPutIn IsFor a w → atom_value (patterns known) number w ≡ atom_regex no_names a
    atom_built (Bytes set) w p = ap (atom_value (patterns known) number) p
    atom_built (Quote bytes) w p = ap (atom_value (patterns known) number) p
    atom_built (Name name) w p = absurd p
    atom_built (Group u) w (inl p) = ap (atom_value (patterns known) number) p.1 ∙ ap (alone_or Either) (branches_built u p.0 p.2)
    atom_built (Group u) w (inr p) = ap (atom_value (patterns known) number) p.1 ∙ p.2

pub built : (known : List (ℕ × Pattern)) (ops : List Op) (tree : Tree) → GiveTree (HasPattern known) ops tree → value_of (patterns (known_at known)) ops ≡ pattern_of tree
built known ops tree g =
    ap (value_of (patterns (known_at known))) g.are
    ∙ evaluated (patterns (known_at known)) g.number g.spelled
    ∙ ap (alone_or Either) (branches_built (known_at known) g.number tree g.spelled g.put_in)
