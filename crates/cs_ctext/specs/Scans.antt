-- Working words of the proofs: the sizes of constructs and the words of a text as they are found, byte by byte.
-- What they mean is in the other files; the proofs show that both agree.
use Rattle.std.specs.Prelude.{ℕ, zero, suc, ◌+◌, ◌-◌, Bool, false, ◌==◌, ◌&&◌, ◌||◌, not, if◌then◌else◌, List, [], ◌∷◌, ◌++◌, length, take, drop, min, Option, Some, None, option_map, unwrap_or}
use Rattle.std.specs.List.{prefix_len}
use Rattle.cs_bytes.specs.Names.{newline, quote, star, slash, backslash, letter_x}
use Rattle.cs_bytes.specs.Classes.{is_octal_digit, is_hexadecimal_digit, is_word_byte, begins_word}
use Rattle.cs_bytes.specs.Places.{begins_with_two, line_len}
use Rattle.cs_bytes.specs.Digits.{number_of}
use Rattle.cs_ctext.specs.Marks.{is_quote}
use Rattle.cs_ctext.specs.Comments.{opens_comment}
use Rattle.cs_ctext.specs.Literals.{escaped_byte}
use Rattle.cs_ctext.specs.Words.{word_at}
use Rattle.cs_ctext.specs.declared.word_iter.Word.{Word}

-- through the first `*/`
abbrev pub closing_size : List ℕ → Option ℕ
closing_size [] = None
closing_size (b ∷ text) = if begins_with_two star slash (b ∷ text) then Some 2 else option_map suc (closing_size text)

-- of the comment in front, where one is opened and closed
abbrev pub comment_size : List ℕ → Option ℕ
comment_size text =
    if begins_with_two slash slash text then Some (line_len (drop 2 text) + 2)
    else if begins_with_two slash star text then option_map (λ n. n + 2) (closing_size (drop 2 text))
    else None

-- through the closing mark; whether the byte before was a backslash that takes the first one along
abbrev pub quoted_rest : ℕ → Bool → List ℕ → Option ℕ
quoted_rest mark is_taken [] = None
quoted_rest mark is_taken (b ∷ text) =
    if not is_taken && (b == mark) then Some 1
    else if not is_taken && (b == newline) then None
    else option_map suc (quoted_rest mark (not is_taken && (b == backslash)) text)

-- of the closed quoted construct in front, where there is one
abbrev pub quoted_size : List ℕ → Option ℕ
quoted_size [] = None
quoted_size (b ∷ text) = if is_quote b then option_map suc (quoted_rest b false text) else None

-- of the comment, closed quoted construct or other byte in front; None where an open comment stands there
abbrev pub part_size : List ℕ → Option ℕ
part_size text = if opens_comment text then comment_size text else Some (unwrap_or (quoted_size text) 1)

-- of the run or part in front; an open comment takes the rest
abbrev pub piece_size : List ℕ → ℕ
piece_size [] = 0
piece_size (b ∷ text) =
    if is_word_byte b then prefix_len is_word_byte (b ∷ text)
    else unwrap_or (part_size (b ∷ text)) (length (b ∷ text))

-- the word of this size, where one begins at the byte
abbrev pub word_here : ℕ → ℕ → ℕ → List Word
word_here at b n = if begins_word b then word_at at n ∷ [] else []

-- the words behind the first `skipped` bytes of a text whose first byte has the offset `at`
abbrev pub words_behind : ℕ → ℕ → List ℕ → List Word
words_behind skipped at [] = []
words_behind zero at (b ∷ text) =
    word_here at b (piece_size (b ∷ text)) ++ words_behind (piece_size (b ∷ text) - 1) (suc at) text
words_behind (suc skipped) at (b ∷ text) = words_behind skipped (suc at) text

abbrev pub words_of : ℕ → List ℕ → List Word
words_of at text = words_behind 0 at text

-- up to `most` digits in front, as a number and their count
abbrev pub digits_of : (ℕ → Bool) → ℕ → ℕ → List ℕ → Option (ℕ × ℕ)
digits_of is_digit base most text =
    let n = min most (prefix_len is_digit text) in
    if n == 0 then None else Some (number_of base (take n text), n)

abbrev pub behind : ℕ → Option (ℕ × ℕ) → Option (ℕ × ℕ)
behind n found = option_map (λ v. (v.0, v.1 + n)) found

-- one byte that spells this value
abbrev pub single : Option ℕ → Option (ℕ × ℕ)
single found = option_map (λ v. (v, 1)) found

-- what is behind a backslash
abbrev pub escape_of : List ℕ → Option (ℕ × ℕ)
escape_of [] = None
escape_of (b ∷ text) =
    if b == letter_x then behind 1 (digits_of is_hexadecimal_digit 16 2 text)
    else if is_octal_digit b then digits_of is_octal_digit 8 3 (b ∷ text)
    else single (escaped_byte b)

-- the value and the size of the character in front
abbrev pub character_of : List ℕ → Option (ℕ × ℕ)
character_of [] = None
character_of (b ∷ text) =
    if (b == quote) || (b == newline) then None
    else if b == backslash then behind 1 (escape_of text)
    else Some (b, 1)
