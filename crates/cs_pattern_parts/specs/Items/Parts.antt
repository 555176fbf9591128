-- Parts of a pattern's text (POSIX lex, "Escape sequences in lex").
use Rattle.std.specs.Prelude.{◌≡◌, ◌≢◌, ℕ, ◌+◌, ◌<◌, ◌==◌, nat_le, if◌then◌else◌, min, false, List, [], ◌∷◌, ◌++◌, length, take, drop, Option, Some, None, slice_get}
use Rattle.std.specs.List.{prefix_len}
use Rattle.cs_bytes.specs.Names.{alert, backspace, carriage_return, form_feed, letter_a, letter_b, letter_f, letter_n, letter_r, letter_t, letter_v, letter_x, newline, tab, vertical_tab}
use Rattle.cs_bytes.specs.Classes.{is_octal_digit, is_hexadecimal_digit}
use Rattle.cs_bytes.specs.Digits.{number_of}

-- the byte is the first of the text
abbrev pub BeginsWithByte : List ℕ → ℕ → Type 0
BeginsWithByte text b = slice_get text 0 ≡ Some b

-- the text begins with these n bytes
pub record Shows (text bytes : List ℕ) (n : ℕ) : Type 0 where
  pub rest : List ℕ
  pub is : text ≡ bytes ++ rest
  pub size : n ≡ length bytes

-- the byte of a number, where it is one
abbrev pub byte_of : ℕ → Option ℕ
byte_of n = if nat_le n 255 then Some n else None

-- the byte for which an escape of one letter stands
abbrev pub letter : ℕ → ℕ
letter b =
    if b == letter_a then alert else (if b == letter_b then backspace else (if b == letter_t then tab else (if b == letter_n then newline
    else (if b == letter_v then vertical_tab else (if b == letter_f then form_feed else (if b == letter_r then carriage_return else b))))))

-- Behind a backslash the first n bytes are an escape, and it stands for the byte, if there is one: the longest run of up to
-- three octal digits, whose number may be above 255; `x` and the longest run of up to two hexadecimal digits; another byte
-- but newline, and `x` too where no such digit stands behind it.
pub data Escapes : List ℕ → ℕ → Option ℕ → Type 0 where
  octal_digits : (text : List ℕ) (n : ℕ) (byte : Option ℕ) → n ≡ min (prefix_len is_octal_digit text) 3 → 0 < n → byte ≡ byte_of (number_of 8 (take n text)) → Escapes text n byte
  hexadecimal_digits : (text : List ℕ) (n : ℕ) (byte : Option ℕ) → n ≡ min (prefix_len is_hexadecimal_digit text) 2 → 0 < n → byte ≡ byte_of (number_of 16 (take n text)) → Escapes (letter_x ∷ text) (n + 1) byte
  itself_or_control : (b : ℕ) (text : List ℕ) (byte : Option ℕ) → is_octal_digit b ≡ false → b ≢ newline → (b ≡ letter_x → prefix_len is_hexadecimal_digit text ≡ 0) → byte ≡ Some (letter b) → Escapes (b ∷ text) 1 byte

-- the first bytes of the text are parts, one behind the other
pub data InTurn {A : Type 0} (Part : List ℕ → ℕ → A → Type 0) : List ℕ → ℕ → List A → Type 0 where
  none : (text : List ℕ) → InTurn Part text 0 []
  more : (text : List ℕ) (n m : ℕ) (x : A) (xs : List A) → Part text n x → InTurn Part (drop n text) m xs → InTurn Part text (n + m) (x ∷ xs)
