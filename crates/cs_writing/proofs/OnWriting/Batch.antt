-- The entries of a batch, written one after another.
use Rattle.std.proofs.Common.{◌≡◌, ℕ, ◌+◌, ◌<◌, List, [], ◌∷◌, ◌++◌, Some, length, get_or, map, take, drop, sym, ap, ◌∙◌, subst, arith, append-nil, length-take-le, take-append-drop}
use Rattle.std.specs.Prelude.{slice_get}
use Rattle.std.proofs.lemmas.List.{map-append, take_more}
use Rattle.std.proofs.lemmas.Option.{get_or_from_slice_get, slice_get_within}
use Rattle.cs_io.specs.declared.sink.Sink as Sink
use Rattle.cs_io.specs.Lines.{IsCutShort, IsWritten}
use Rattle.cs_manifest.proofs.OnOutput.Written.{written_then, written_cut, cut_longer}
use Rattle.cs_manifest.specs.Output.Words.{numbered_from}
use Rattle.cs_yacc.specs.Reading.File.{File}
use Rattle.cs_manifest.proofs.OnOutput.Numbered.{numbered_both}

-- what is read at a place stands there
pub record StandsAt {A : Type 0} (list : List A) (i : ℕ) (made : A) : Type 0 where
  pub within : i < length list
  pub is : made ≡ get_or list i made

pub stands_at : {A : Type 0} (list : List A) (i : ℕ) (made : A) → slice_get list i ≡ Some made → StandsAt list i made
stands_at list i made at = record { within = slice_get_within list i made at; is = sym (get_or_from_slice_get list i made made at) }

-- the next member's lines, as they are and as they are told
pub lines_are : {A : Type 0} (f : File → ℕ → A → List ℕ) (file now : File) (first i number : ℕ) (made : A) (lines : List ℕ) → now ≡ file → number ≡ first + i → lines ≡ f now number made
    → lines ≡ f file (first + i) made
lines_are f file now first i number made lines same at is = is ∙ ap (λ (k : ℕ). f now k made) at ∙ ap (λ (h : File). f h (first + i) made) same

-- and those of a whole batch
pub batch_lines_are : {A : Type 0} (f : File → ℕ → A → List ℕ) (number : ℕ) {now file : File} {batch made : List A} → now ≡ file → batch ≡ made
    → numbered_from number (f now) batch ≡ numbered_from number (f file) made
batch_lines_are f number {now} {file} {batch} {made} same is = ap (λ (h : File). numbered_from number (f h) batch) same ∙ ap (numbered_from number (f file)) is

module _ {A : Type 0} (batch : List A) (i : ℕ) (made : A) (within : i < length batch) (is : made ≡ get_or batch i made) where
  pub one_more : take (i + 1) batch ≡ take i batch ++ made ∷ []
  one_more = take_more batch i made within ∙ ap (λ (x : A). take i batch ++ x ∷ []) (sym is)

  pub before : length (take i batch) ≡ i
  before = length-take-le i batch (omega (arith, within))

-- the same of what is made of each
pub one_made_more : {A B : Type 0} (h : A → B) (batch : List A) (i : ℕ) (made : A) → i < length batch → made ≡ get_or batch i made → map h (take (i + 1) batch) ≡ map h (take i batch) ++ h made ∷ []
one_made_more h batch i made within is = ap (map h) (one_more batch i made within is) ∙ map-append h (take i batch) (made ∷ [])

module _ {A : Type 0} (f : ℕ → A → List ℕ) (first : ℕ) (batch : List A) (i : ℕ) (made : A) (within : i < length batch) (is : made ≡ get_or batch i made) where
  pub lines_more : numbered_from first f (take (i + 1) batch) ≡ numbered_from first f (take i batch) ++ f (first + i) made
  lines_more =
      ap (numbered_from first f) (one_more batch i made within is) ∙ numbered_both f first (take i batch) (made ∷ [])
      ∙ ap (λ (k : ℕ). numbered_from first f (take i batch) ++ numbered_from (first + k) f (made ∷ [])) (before batch i made within is)
      ∙ ap (λ (l : List ℕ). numbered_from first f (take i batch) ++ l) (append-nil (f (first + i) made))

  module _ {S : Type 0} {g : Sink.Ghosts S} where
    pub written_more : (old mid new : S) → IsWritten g (numbered_from first f (take i batch)) old mid → IsWritten g (f (first + i) made) mid new
        → IsWritten g (numbered_from first f (take (i + 1) batch)) old new
    written_more old mid new so_far lines = subst (λ (l : List ℕ). IsWritten g l old new) (sym lines_more) (written_then so_far lines)

    pub cut_within : (old mid new : S) → IsWritten g (numbered_from first f (take i batch)) old mid → IsCutShort g (f (first + i) made) mid new
        → IsCutShort g (numbered_from first f batch) old new
    cut_within old mid new so_far cut =
        let rest = numbered_from (first + length (take (i + 1) batch)) f (drop (i + 1) batch) in
        let split : numbered_from first f (take (i + 1) batch) ++ rest ≡ numbered_from first f batch =
        sym (numbered_both f first (take (i + 1) batch) (drop (i + 1) batch)) ∙ ap (numbered_from first f) (take-append-drop (i + 1) batch) in
        let part = subst (λ (l : List ℕ). IsCutShort g l old new) (sym lines_more) (written_cut so_far cut) in
        subst (λ (l : List ℕ). IsCutShort g l old new) split (cut_longer rest part)
