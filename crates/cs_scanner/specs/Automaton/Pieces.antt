-- The pieces of a pattern that are still to be laid out as steps.
use Rattle.std.specs.Prelude.{◌≡◌, ℕ, ◌+◌, ◌<◌, List, [], ◌∷◌, ◌++◌, map, length, reverse}
use Rattle.std.proofs.Common.{Bor, Vec, Global}
use Rattle.cs_pattern_parts.specs.Tree.Pattern.{Regex, regex, Empty, Class, Join, Either, Many, Parts, Nothing, Then, parts_of}
use Rattle.cs_scanner.specs.declared.automaton.op.Op.{Op}
use Rattle.cs_scanner.specs.declared.automaton.op.Op.TheVariants as ops
use Rattle.cs_scanner.specs.declared.automaton.flat.Piece as code
use Rattle.cs_scanner.specs.declared.automaton.flat.Piece.TheVariants as held
use Rattle.cs_scanner.specs.Automaton.Re.{Re, empty, letter}
use Rattle.cs_scanner.specs.Automaton.Meaning.{re, cat_of, alt_of, classes}
use Rattle.cs_scanner.specs.Automaton.Places.{letters}
use Rattle.cs_scanner.specs.Automaton.Flat.{flat, flat_join, flat_either}
use Rattle.cs_scanner.specs.Automaton.Programs.{values, AddsClasses, GrowsBy}

pub data Piece : Type 0 where
  step : Op → Piece
  place : List ℕ → Piece
  whole : Regex → Piece
  join : Parts → Piece
  either : Parts → Piece

abbrev pub piece_of : code.Piece → Piece
piece_of (held.Step op) = step op
piece_of (held.Place set) = place set.now
piece_of (held.Whole p) = whole (regex p.now)
piece_of (held.Join ps) = join (parts_of (map regex ps.now))
piece_of (held.Either ps) = either (parts_of (map regex ps.now))

-- the pieces of a stack, from its top on
abbrev pub pieces : Vec code.Piece Global → List Piece
pieces left = map piece_of (reverse left.items)

-- what a piece falls into; a step and the step of a class fall into nothing else
abbrev pub opened : Piece → List Piece
opened (step op) = step op ∷ []
opened (place set) = place set ∷ []
opened (whole Empty) = []
opened (whole (Class set)) = place set ∷ []
opened (whole (Join parts)) = join parts ∷ []
opened (whole (Either parts)) = step ops.Open ∷ either parts ∷ []
opened (whole (Many part)) = step ops.Loop ∷ whole part ∷ step ops.Again ∷ []
opened (join Nothing) = []
opened (join (Then r rs)) = whole r ∷ join rs ∷ []
opened (either Nothing) = step ops.Close ∷ []
opened (either (Then r rs)) = whole r ∷ step ops.Or ∷ either rs ∷ []

-- ---- what pieces come to

-- the steps of a piece, where its classes are numbered from there on
abbrev pub piece_ops : ℕ → Piece → List Op
piece_ops from (step op) = op ∷ []
piece_ops from (place set) = ops.Place from ∷ []
piece_ops from (whole r) = flat from r
piece_ops from (join parts) = flat_join from parts
piece_ops from (either parts) = flat_either from parts

abbrev pub piece_re : Piece → Re (List ℕ)
piece_re (step op) = empty
piece_re (place set) = letter set
piece_re (whole r) = re r
piece_re (join parts) = cat_of parts
piece_re (either parts) = alt_of parts

abbrev pub piece_letters : Piece → ℕ
piece_letters p = letters (piece_re p)

abbrev pub piece_classes : Piece → List (List ℕ)
piece_classes p = classes (piece_re p)

abbrev pub ops_in : ℕ → List Piece → List Op
ops_in from [] = []
ops_in from (p ∷ ps) = piece_ops from p ++ ops_in (from + piece_letters p) ps

abbrev pub letters_in : List Piece → ℕ
letters_in [] = 0
letters_in (p ∷ ps) = piece_letters p + letters_in ps

abbrev pub classes_in : List Piece → List (List ℕ)
classes_in [] = []
classes_in (p ∷ ps) = piece_classes p ++ classes_in ps

-- ---- how much is left

abbrev mutual
  pub work : Regex → ℕ
  work Empty = 1
  work (Class set) = 2
  work (Join parts) = 1 + work_of_parts parts
  work (Either parts) = 2 + work_of_parts parts
  work (Many part) = 3 + work part

  pub work_of_parts : Parts → ℕ
  work_of_parts Nothing = 2
  work_of_parts (Then r rs) = 2 + (work r + work_of_parts rs)

abbrev pub piece_work : Piece → ℕ
piece_work (step op) = 1
piece_work (place set) = 1
piece_work (whole r) = work r
piece_work (join parts) = work_of_parts parts
piece_work (either parts) = work_of_parts parts

abbrev pub work_in : List Piece → ℕ
work_in [] = 0
work_in (p ∷ ps) = piece_work p + work_in ps

-- ---- what the calls do

-- what the piece falls into was put on the stack
abbrev pub Opens : Piece → Vec code.Piece Global → Vec code.Piece Global → Type 0
Opens piece old new = pieces new ≡ opened piece ++ pieces old

-- The piece is taken on: what is laid out then and what is left then come to the same as before, and less is left.
pub record Takes (first : Piece) (behind left : List Piece) (old_ops new_ops : List Op) (old new : Vec (Bor (List ℕ)) Global) : Type 0 where
  pub count : length new.items + letters_in left ≡ length old.items + (piece_letters first + letters_in behind)
  pub steps : new_ops ++ ops_in (length new.items) left ≡ old_ops ++ ops_in (length old.items) (first ∷ behind)
  pub list : values new.items ++ classes_in left ≡ values old.items ++ classes_in (first ∷ behind)
  pub less : work_in left < piece_work first + work_in behind

-- so the piece of a call is taken on
abbrev pub Lays : code.Piece → Vec code.Piece Global → Vec code.Piece Global → Vec Op Global → Vec Op Global → Vec (Bor (List ℕ)) Global → Vec (Bor (List ℕ)) Global → Type 0
Lays first old_left new_left old_ops new_ops old new = Takes (piece_of first) (pieces old_left) (pieces new_left) old_ops.items new_ops.items old new

-- the steps and the classes of these are appended
pub record AppendsAll (left : List Piece) (old_ops new_ops : Vec Op Global) (old new : Vec (Bor (List ℕ)) Global) : Type 0 where
  pub steps : new_ops.items ≡ old_ops.items ++ ops_in (length old.items) left
  pub list : AddsClasses old new (classes_in left)
  pub count : GrowsBy old new (letters_in left)
