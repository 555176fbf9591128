-- Parts and pieces of C text.
use Rattle.std.proofs.Common.{◌≡◌, ℕ, ◌<◌, ◌≤◌, Bool, true, false, not, eqb, ◌&&◌, ◌||◌, List, [], ◌∷◌, length, Option, Some, None, refl, sym, arith}
use Rattle.std.specs.Prelude.{IfSome}
use Rattle.std.proofs.lemmas.Bool.{false≢true}
use Rattle.std.proofs.lemmas.List.Sums.{prefix_len-le-length}
use Rattle.cs_ctext.specs.Blocks.{BeginsPart}
use Rattle.cs_bytes.specs.Places.{begins_with}
use Rattle.cs_bytes.specs.Places.{front, front_or_end, line_len}
use Rattle.cs_bytes.specs.Classes.{is_newline, is_space}
use Rattle.cs_lex.specs.Layout.Runs.{ends_part, IsPiece, part}
use Rattle.cs_lex.specs.Layout.Found.{closed_or_line}

-- ---- pieces

not_special : (braces : Bool) (text : List ℕ) → front_or_end is_newline text ≡ false → (braces && begins_with 123 text) ≡ false → front (ends_part braces) text ≡ false
not_special braces [] e f = refl
not_special braces (b ∷ text) e f = rw (e, f) refl

pub part_piece : (braces : Bool) (text : List ℕ) (size : ℕ) → front_or_end is_newline text ≡ false → (braces && begins_with 123 text) ≡ false → BeginsPart text size → IsPiece braces text size
part_piece braces text size e f h = part (h (ends_part braces) (not_special braces text e f))

-- ---- what goes to the line's end

line_some : (text : List ℕ) → front_or_end is_space text ≡ false → 0 < line_len text
line_some [] e = absurd (false≢true (sym e))
line_some (b ∷ text) e = let no : is_newline b ≡ false = or_false (is_space_left b) (is_newline b) e in rw no (omega arith)
  where
    is_space_left : ℕ → Bool
    is_space_left c = (eqb c 32) || (eqb c 9) || (eqb c 13)

    or_false : (p q : Bool) → (p || q) ≡ false → q ≡ false
    or_false true q f = absurd (false≢true (sym f))
    or_false false q f = f

pub line_within : (text : List ℕ) (found : Option ℕ) (n : ℕ) → n ≡ closed_or_line found text → front_or_end is_space text ≡ false → IfSome found (λ n. (0 < n) × (n ≤ length text)) → (0 < n) × (n ≤ length text)
line_within text None n is e h = rw is (line_some text e, prefix_len-le-length (λ b. not (is_newline b)) text)
line_within text (Some m) n is e h = rw is h
