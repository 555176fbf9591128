-- Each either in a tree's pattern has a part.
use Rattle.std.proofs.Common.{ℕ, zero, suc, ◌-◌, List, [], ◌∷◌, ◌++◌, map, replicate}
use Rattle.cs_pattern_parts.specs.declared.items.item.Repetition.{Repetition}
use Rattle.cs_pattern_parts.specs.declared.items.item.Repetition.TheVariants.{Optional, Exactly, AtLeast, Between}
use Rattle.cs_pattern_parts.specs.Tree.Pattern.{Regex, Empty, Join, Either, Many, Parts, Nothing, Then, parts_of, alone_or}
use Rattle.cs_pattern_parts.specs.Tree.Repeated.{repeated, optional, optionals, at_least, quoted, one_byte}
use Rattle.cs_pattern_parts.specs.Tree.Scannable.{HasNoEmptyEither, HaveNoEmptyEither}
use Rattle.cs_pattern.specs.Operations.Grammar.{Tree, LastBranch, Or, Branch, LastPiece, Beside, Piece, Repeated, Atom, Bytes, Quote, Name, Group, all_repeated, branch_parts, piece_parts, piece_regex, atom_regex}
use Rattle.cs_pattern.specs.Operations.Depth.{pattern_of}

copies_and : (n : ℕ) (r : Regex) (rs : List Regex) → HasNoEmptyEither r → HaveNoEmptyEither (parts_of rs) → HaveNoEmptyEither (parts_of (replicate n r ++ rs))
copies_and zero r rs h k = k
copies_and (suc n) r rs h k = (h, copies_and n r rs h k)

copies : (n : ℕ) (r : Regex) → HasNoEmptyEither r → HaveNoEmptyEither (parts_of (replicate n r))
copies zero r h = tt
copies (suc n) r h = (h, copies n r h)

at_least_keeps : (n : ℕ) (r : Regex) → HasNoEmptyEither r → HasNoEmptyEither (at_least n r)
at_least_keeps zero r h = h
at_least_keeps (suc n) r h = copies_and (suc n) r (Many r ∷ []) h (h, tt)

repeated_keeps : (r : Regex) (n : Repetition) → HasNoEmptyEither r → HasNoEmptyEither (repeated r n)
repeated_keeps r Optional h = (tt, (h, (tt, tt)))
repeated_keeps r (Exactly n) h = copies n r h
repeated_keeps r (AtLeast n) h = at_least_keeps n r h
repeated_keeps r (Between n m) h = copies_and n r (optionals (m - n) r) h (copies (m - n) (optional r) (tt, (h, (tt, tt))))

all_repeated_keeps : (r : Regex) (rs : List Repetition) → HasNoEmptyEither r → HasNoEmptyEither (all_repeated r rs)
all_repeated_keeps r [] h = h
all_repeated_keeps r (n ∷ rs) h = all_repeated_keeps (repeated r n) rs (repeated_keeps r n h)

bytes_keep : (bytes : List ℕ) → HaveNoEmptyEither (parts_of (map one_byte bytes))
bytes_keep [] = tt
bytes_keep (b ∷ bytes) = (tt, bytes_keep bytes)

quoted_keeps : (bytes : List ℕ) → HasNoEmptyEither (quoted bytes)
quoted_keeps [] = tt
quoted_keeps (b ∷ bytes) = bytes_keep (b ∷ bytes)

joined : (ps : Parts) → HaveNoEmptyEither ps → HasNoEmptyEither (alone_or Join ps)
joined Nothing h = tt
joined (Then r Nothing) h = h.0
joined (Then r (Then s rs)) h = h

one_of : (r : Regex) (rs : Parts) → HaveNoEmptyEither (Then r rs) → HasNoEmptyEither (alone_or Either (Then r rs))
one_of r Nothing h = h.0
one_of r (Then s rs) h = (tt, h)

abbrev no_names : List ℕ → Regex
no_names name = Empty

mutual
  branches : (t : Tree) → HaveNoEmptyEither (branch_parts no_names t)
  branches (LastBranch b) = (joined (piece_parts no_names b) (pieces b), tt)
  branches (Or b t) = (joined (piece_parts no_names b) (pieces b), branches t)

  pieces : (b : Branch) → HaveNoEmptyEither (piece_parts no_names b)
  pieces (LastPiece p) = (piece p, tt)
  pieces (Beside p b) = (piece p, pieces b)

  piece : (p : Piece) → HasNoEmptyEither (piece_regex no_names p)
  piece (Repeated a rs) = all_repeated_keeps (atom_regex no_names a) rs (atom a)

  atom : (a : Atom) → HasNoEmptyEither (atom_regex no_names a)
  atom (Bytes set) = tt
  atom (Quote bytes) = quoted_keeps bytes
  atom (Name name) = tt
  atom (Group t) = group t (branches t)

  group : (t : Tree) → HaveNoEmptyEither (branch_parts no_names t) → HasNoEmptyEither (alone_or Either (branch_parts no_names t))
  group (LastBranch b) h = one_of (alone_or Join (piece_parts no_names b)) Nothing h
  group (Or b t) h = one_of (alone_or Join (piece_parts no_names b)) (branch_parts no_names t) h

pub no_empty_either : (t : Tree) → HasNoEmptyEither (pattern_of t)
no_empty_either t = atom (Group t)
