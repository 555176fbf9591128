-- How many joins, eithers and manies stand around a part of a tree's pattern: at most twice its depth, and three.
use Rattle.std.proofs.Common.{ℕ, zero, suc, ◌+◌, ◌-◌, ◌*◌, ◌≤◌, List, [], ◌∷◌, ◌++◌, length, map, replicate, arith}
use Rattle.cs_pattern_parts.specs.declared.items.item.Repetition.{Repetition}
use Rattle.cs_pattern_parts.specs.declared.items.item.Repetition.TheVariants.{Optional, Exactly, AtLeast, Between}
use Rattle.cs_pattern_parts.specs.Tree.Pattern.{Regex, Empty, Join, Either, Many, Parts, Nothing, Then, parts_of, alone_or, nesting, part_nesting}
use Rattle.cs_pattern_parts.specs.Tree.Repeated.{repeated, optional, optionals, at_least, quoted, one_byte}
use Rattle.cs_pattern.specs.Operations.Grammar.{Tree, LastBranch, Or, Branch, LastPiece, Beside, Piece, Repeated, Atom, Bytes, Quote, Name, Group, all_repeated, branch_parts, piece_parts, piece_regex, atom_regex}
use Rattle.cs_pattern.specs.Operations.Depth.{depth, branch_depth, piece_depth, atom_depth, pattern_of}

copies_and : (n : ℕ) (r : Regex) (rs : List Regex) (most : ℕ) → nesting r + 1 ≤ most → part_nesting (parts_of rs) ≤ most → part_nesting (parts_of (replicate n r ++ rs)) ≤ most
copies_and zero r rs most h k = k
copies_and (suc n) r rs most h k = omega (arith, copies_and n r rs most h k)

copies : (n : ℕ) (r : Regex) (most : ℕ) → nesting r + 1 ≤ most → part_nesting (parts_of (replicate n r)) ≤ most
copies zero r most h = omega arith
copies (suc n) r most h = omega (arith, copies n r most h)

at_least_nested : (n : ℕ) (r : Regex) → nesting (at_least n r) ≤ nesting r + 2
at_least_nested zero r = omega arith
at_least_nested (suc n) r = copies_and (suc n) r (Many r ∷ []) (nesting r + 2) (omega arith) (omega arith)

-- a repetition adds two at most
pub repeated_nested : (r : Regex) (n : Repetition) → nesting (repeated r n) ≤ nesting r + 2
repeated_nested r Optional = omega arith
repeated_nested r (Exactly n) = copies n r (nesting r + 2) (omega arith)
repeated_nested r (AtLeast n) = at_least_nested n r
repeated_nested r (Between n m) = copies_and n r (optionals (m - n) r) (nesting r + 2) (omega arith) (copies (m - n) (optional r) (nesting r + 2) (omega arith))

all_repeated_nested : (r : Regex) (rs : List Repetition) → nesting (all_repeated r rs) ≤ nesting r + 2 * length rs
all_repeated_nested r [] = omega arith
all_repeated_nested r (n ∷ rs) = omega (arith, repeated_nested r n, all_repeated_nested (repeated r n) rs)

bytes_nested : (bytes : List ℕ) → part_nesting (parts_of (map one_byte bytes)) ≤ 1
bytes_nested [] = omega arith
bytes_nested (b ∷ bytes) = omega (arith, bytes_nested bytes)

pub quoted_nested : (bytes : List ℕ) → nesting (quoted bytes) ≤ 1
quoted_nested [] = omega arith
quoted_nested (b ∷ bytes) = bytes_nested (b ∷ bytes)

pub join_nested : (ps : Parts) → nesting (alone_or Join ps) ≤ part_nesting ps
join_nested Nothing = omega arith
join_nested (Then r Nothing) = omega arith
join_nested (Then r (Then s rs)) = omega arith

pub either_nested : (ps : Parts) → nesting (alone_or Either ps) ≤ part_nesting ps
either_nested Nothing = omega arith
either_nested (Then r Nothing) = omega arith
either_nested (Then r (Then s rs)) = omega arith

abbrev no_names : List ℕ → Regex
no_names name = Empty

mutual
  pub branches_nested : (t : Tree) → part_nesting (branch_parts no_names t) ≤ 2 * depth t + 3
  branches_nested (LastBranch b) = omega (arith, join_nested (piece_parts no_names b), pieces_nested b)
  branches_nested (Or b t) = omega (arith, join_nested (piece_parts no_names b), pieces_nested b, branches_nested t)

  pub pieces_nested : (b : Branch) → part_nesting (piece_parts no_names b) ≤ 2 * branch_depth b + 2
  pieces_nested (LastPiece p) = omega (arith, piece_nested p)
  pieces_nested (Beside p b) = omega (arith, piece_nested p, pieces_nested b)

  pub piece_nested : (p : Piece) → nesting (piece_regex no_names p) ≤ 2 * piece_depth p + 1
  piece_nested (Repeated a rs) = omega (arith, atom_nested a, all_repeated_nested (atom_regex no_names a) rs)

  pub atom_nested : (a : Atom) → nesting (atom_regex no_names a) ≤ 2 * atom_depth a + 1
  atom_nested (Bytes set) = omega arith
  atom_nested (Quote bytes) = omega (arith, quoted_nested bytes)
  atom_nested (Name name) = omega arith
  atom_nested (Group t) = omega (arith, either_nested (branch_parts no_names t), branches_nested t)

pub tree_nested : (t : Tree) → nesting (pattern_of t) ≤ 2 * depth t + 3
tree_nested t = omega (arith, either_nested (branch_parts no_names t), branches_nested t)
