-- What is laid out of pieces, and what is left of them.
use Rattle.std.proofs.Common.{◌≡◌, ℕ, ◌+◌, ◌<◌, List, [], ◌∷◌, ◌++◌, Bor, Vec, Global, ap, ◌∙◌, arith, length, map, reverse}
use Rattle.std.proofs.lemmas.List.{reverse-append}
use Rattle.cs_scanner.specs.declared.automaton.op.Op.{Op}
use Rattle.cs_scanner.specs.declared.automaton.flat.Piece as code
use Rattle.cs_scanner.specs.Automaton.Programs.{values}
use Rattle.cs_scanner.specs.Automaton.Pieces.{Piece, piece_of, pieces, ops_in, letters_in, classes_in, work_in, Takes}

pub on_top : (old new : Vec code.Piece Global) (x : code.Piece) → new.items ≡ old.items ++ x ∷ [] → pieces new ≡ piece_of x ∷ pieces old
on_top old new x e = ap (λ t. map piece_of (reverse t)) e ∙ ap (map piece_of) (reverse-append old.items (x ∷ []))

-- What is laid out and what is left come to the same as at the beginning.
pub record IsLaid (all left : List Piece) (old_ops new_ops : Vec Op Global) (old new : Vec (Bor (List ℕ)) Global) : Type 0 where
  pub count : length new.items + letters_in left ≡ length old.items + letters_in all
  pub steps : new_ops.items ++ ops_in (length new.items) left ≡ old_ops.items ++ ops_in (length old.items) all
  pub list : values new.items ++ classes_in left ≡ values old.items ++ classes_in all

pub less_left : (left behind more : List Piece) (first : Piece) (b c : List Op) (y z : Vec (Bor (List ℕ)) Global) → left ≡ first ∷ behind → Takes first behind more b c y z → work_in more < work_in left
less_left left behind more first b c y z e t = omega (arith, t.less, ap work_in e)
