-- Kinds of bytes in a yacc file (POSIX yacc, the grammar file).
use Rattle.std.specs.Prelude.{ℕ, Bool, ◌==◌, ◌||◌}
use Rattle.cs_bytes.specs.Names.{newline, full_stop, greater_sign}
use Rattle.cs_bytes.specs.Classes.{begins_word, is_word_byte, is_dashed_word_byte}

-- what a name begins with: a letter, `_` or `.`
abbrev pub begins_name : ℕ → Bool
begins_name b = begins_word b || (b == full_stop)

-- what a name goes on with: these and digits
abbrev pub is_name_byte : ℕ → Bool
is_name_byte b = is_word_byte b || (b == full_stop)

-- what the word of a directive holds: letters, digits, `_` and `-`
abbrev pub is_directive_byte : ℕ → Bool
is_directive_byte b = is_dashed_word_byte b

-- `>` or newline: what closes a tag, and what leaves it open
abbrev pub ends_tag : ℕ → Bool
ends_tag b = (b == greater_sign) || (b == newline)
