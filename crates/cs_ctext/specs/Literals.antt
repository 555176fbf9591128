-- Character literals: a single quote, one character or escape, a single quote (ISO C, character constants).
use Rattle.std.specs.Prelude.{◌≡◌, ◌≢◌, ℕ, ◌+◌, ◌<◌, ◌≤◌, ◌==◌, ◌||◌, if◌then◌else◌, List, [], ◌∷◌, ◌++◌, length, Option, Some, None, IsTrue}
use Rattle.std.specs.List.{list_all}
use Rattle.cs_bytes.specs.Names.{tab, newline, carriage_return, quote, double_quote, backslash, question_mark, letter_x, alert, backspace, form_feed, letter_a, letter_b, letter_f, letter_n, letter_r, letter_t, letter_v, vertical_tab}
use Rattle.cs_bytes.specs.Classes.{is_octal_digit, is_hexadecimal_digit}
use Rattle.cs_bytes.specs.Digits.{number_of}

-- the byte that a backslash and this one spell: `a b f n r t v` are control bytes, and `\ ' " ?` stand for themselves
abbrev pub escaped_byte : ℕ → Option ℕ
escaped_byte b =
    if b == letter_a then Some alert
    else if b == letter_b then Some backspace
    else if b == letter_f then Some form_feed
    else if b == letter_n then Some newline
    else if b == letter_r then Some carriage_return
    else if b == letter_t then Some tab
    else if b == letter_v then Some vertical_tab
    else if (b == backslash) || (b == quote) || (b == double_quote) || (b == question_mark) then Some b
    else None

-- The text spells one character, of this value.
pub data IsCharacter : List ℕ → ℕ → Type 0 where
  -- a byte that stands for itself: no single quote, backslash or newline
  plain : {b : ℕ} → b ≢ quote → b ≢ backslash → b ≢ newline → IsCharacter (b ∷ []) b
  -- a backslash and a letter or mark
  named : {b value : ℕ} → escaped_byte b ≡ Some value → IsCharacter (backslash ∷ b ∷ []) value
  -- a backslash and one to three octal digits
  octal : {digits : List ℕ} → 1 ≤ length digits → length digits ≤ 3 → IsTrue (list_all is_octal_digit digits) → IsCharacter (backslash ∷ digits) (number_of 8 digits)
  -- a backslash, `x` and one or two hexadecimal digits
  hexadecimal : {digits : List ℕ} → 1 ≤ length digits → length digits ≤ 2 → IsTrue (list_all is_hexadecimal_digit digits) → IsCharacter (backslash ∷ letter_x ∷ digits) (number_of 16 digits)

-- A literal of this byte begins the text, and has this size. No literal spells 0 or a number above 255.
pub record IsLiteral (text : List ℕ) (byte size : ℕ) : Type 0 where
  pub character : List ℕ
  pub rest : List ℕ
  pub spelled : text ≡ quote ∷ character ++ quote ∷ rest
  pub value : IsCharacter character byte
  pub not_zero : 0 < byte
  pub fits : byte < 256
  pub ends : size ≡ length character + 2
