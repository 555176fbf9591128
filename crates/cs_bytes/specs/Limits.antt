-- How large a text may be.
use Rattle.std.specs.Prelude.{ℕ}

-- of a yacc file, of a lex file, and of a pattern with all its definitions
abbrev pub most_bytes : ℕ
most_bytes = 1048576
