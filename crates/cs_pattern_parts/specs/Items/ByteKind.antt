-- Kinds of bytes in the text of a pattern.
use Rattle.std.specs.Prelude.{ℕ, Bool, ◌==◌, ◌||◌, not}
use Rattle.cs_bytes.specs.Names.{backslash, caret, closing_parenthesis, dollar, double_quote, full_stop, opening_brace, opening_bracket, opening_parenthesis, plus_sign, question_mark, slash, star, vertical_bar}
use Rattle.cs_bytes.specs.Classes.{is_space}

-- `" \ . [ ( ) | * + ? { ^ $ /`
abbrev pub is_special : ℕ → Bool
is_special b =
    (b == double_quote) || (b == backslash) || (b == full_stop) || (b == opening_bracket) || (b == opening_parenthesis) || (b == closing_parenthesis) || (b == vertical_bar) || (b == star) || (b == plus_sign) || (b == question_mark) || (b == opening_brace) || (b == caret) || (b == dollar) || (b == slash)

-- a byte that stands for itself outside quotes and brackets
abbrev pub is_plain : ℕ → Bool
is_plain b = not (is_space b || is_special b)
